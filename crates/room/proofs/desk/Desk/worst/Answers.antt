-- `room::desk::Desk::worst` meets its contract: the largest count along the late runs is that half a tick after a tick, and the least margin is
-- that of the walk that found them (proofs/Ridges.antt). Assumes nothing.
use Rattle.std.proofs.Common.{FitsSigned, w32, rules}
use Rattle.std.proofs.lemmas.Int.{to_z-of_z}
use Rattle.room.proofs.Sides.{late-ordered}
use Rattle.room.proofs.Ridges.{highest, nearest}
use Rattle.room.proofs.desk.Desk.worst.Goals as goal

pub invariant_of-zones : goal.invariant_of-zones
invariant_of-zones g c = record { runs = late-ordered c.args.self.now.runs.runs c.late-pass.ensures }

pub offset-requires : goal.offset-requires
offset-requires g c = highest _ _ _ _ _ _ _ _ c.late-pass.ensures c.crest-top.ensures

pub returns : goal.returns
returns g c =
    let fits : FitsSigned w32 c.late-pass.result.margin = search rules in
    (c.offset.ensures, rw (to_z-of_z w32 c.late-pass.result.margin fits) (nearest c.late-pass.ensures))
