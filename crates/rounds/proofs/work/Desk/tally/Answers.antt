-- The late ticks are those of one strip (proofs/Found.antt), and strips along their map are the rules'.
use Rattle.std.proofs.Common.{arith}
use Rattle.runs.proofs.Ordered.{runs_in}
use Rattle.room.proofs.Sides.{late-ordered, late-runs, drawn-mapped, tallied}
use Rattle.rounds.proofs.Found.{late-any, drawn-on, drawn-ring}
use Rattle.rounds.proofs.work.Desk.tally.Goals as goal

pub invariant_of-zones : goal.invariant_of-zones
invariant_of-zones c = record { runs = late-ordered c.args.self.now.runs.runs c.late-pass.ensures }

pub count-requires : goal.count-requires
count-requires c =
    let desk = c.args.self.now in
    let drew = drawn-on _ desk.lent.1.long c.mark.ensures in
    let runs = (late-runs (runs_in desk.runs.runs) c.late-pass.ensures).0 in
    (drawn-mapped _ _ _ runs drew.0 drew.1, drawn-ring runs drew desk.lent.0, omega (arith, drew.0, c.requires))

pub returns : goal.returns
returns c =
    let drew = drawn-on _ c.args.self.now.lent.1.long c.mark.ensures in
    tallied _ _ _ _ _ _ _ _ _ (late-any c.single.ensures c.late-pass.ensures) drew.0 drew.1 c.count.ensures.0
