-- The largest count along the map of late ticks half a tick after a tick leads to the worst (proofs/Found.antt), and the least margin is that of
-- the walk.
use Rattle.std.proofs.Common.{rules, FitsSigned, w32}
use Rattle.std.proofs.lemmas.Int.{to_z-of_z}
use Rattle.runs.proofs.Ordered.{runs_in}
use Rattle.room.proofs.Sides.{late-ordered, late-runs}
use Rattle.room.proofs.Ridges.{nearest}
use Rattle.rounds.proofs.Found.{late-any, drawn-on, drawn-ring, ridged}
use Rattle.rounds.proofs.work.Desk.found.Goals as goal

pub invariant_of-zones : goal.invariant_of-zones
invariant_of-zones c = record { runs = late-ordered c.args.self.now.runs.runs c.late-pass.ensures }

pub worst-top-requires : goal.worst-top-requires
worst-top-requires c =
    let desk = c.args.self.now in
    drawn-ring (late-runs (runs_in desk.runs.runs) c.late-pass.ensures).0 (drawn-on _ desk.lent.1.long c.mark.ensures) desk.lent.0

pub offset-requires : goal.offset-requires
offset-requires c =
    ridged _ c.single.ensures c.late-pass.ensures (drawn-on _ c.args.self.now.lent.1.long c.mark.ensures) c.worst-top.ensures

pub returns : goal.returns
returns c =
    let fits : FitsSigned w32 c.late-pass.result.margin = search rules in
    (c.offset.ensures, rw (to_z-of_z w32 _ fits) (nearest (late-any c.single.ensures c.late-pass.ensures)))
