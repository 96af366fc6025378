-- `room::desk::Desk::count` meets its contract: strips along the map of a side are the rules' (proofs/Sides.antt), and without late runs none is
-- dropped (proofs/Ridges.antt). Assumes nothing.
use Rattle.std.proofs.Common.{◌∙◌, arith}
use Rattle.runs.proofs.Ordered.{runs_in}
use Rattle.room.proofs.Sides.{late-ordered, late-runs, drawn-sized, tallied}
use Rattle.room.proofs.Ridges.{tallied-none}
use Rattle.room.proofs.desk.Desk.count.Goals as goal

pub returns-then-pass-eq0 : goal.returns-then-pass-eq0
returns-then-pass-eq0 c = tallied-none _ _ _ _ _ _ _ c.late-pass.ensures c.if-pass-eq0.true

pub invariant_of-zones : goal.invariant_of-zones
invariant_of-zones c = record { runs = late-ordered c.args.self.now.runs.runs c.late-pass.ensures }

pub tally-requires : goal.tally-requires
tally-requires c =
    let desk = c.args.self.now in
    let within = desk.lent.0 in
    let drew = c.draw.ensures in
    let long = drew.0 ∙ desk.lent.1.long in (
      drawn-sized _ _ _ (late-runs (runs_in desk.runs.runs) c.late-pass.ensures).0 long drew.1 _ _ within.period within.strips,
      omega (arith, long, c.requires),
    )

pub returns : goal.returns
returns c =
    let drew = c.draw.ensures in
    tallied _ _ _ _ _ _ _ _ _ c.late-pass.ensures (drew.0 ∙ c.args.self.now.lent.1.long) drew.1 c.tally.ensures.0
