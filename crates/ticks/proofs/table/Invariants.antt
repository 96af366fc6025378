-- `ticks::table`: the slots before slot i are laid out, up to `at`, where the last of the owner's ends, and slot i is met at `met`.
use Rattle.records.specs.Records.{board}
use Rattle.ticks.specs.Ticks.{Fits}
use Rattle.ticks.proofs.Laying.{Laying}
use Rattle.ticks.proofs.table.Given as goal

abbrev pub invariant-loop-i : goal.invariant-loop-i
invariant-loop-i l =
    Fits l.slots l.first l.count l.w l.initial.runs
    × Laying l.w (board l.slots l.first l.count l.owner) l.initial.runs l.runs l.reach.n l.reach.at l.reach.met l.i
