-- `ticks::grid`: the slots before slot i are laid out, `seen` of them are granted, and slot i is met at `met`. The measure is what is left of the
-- slots.
use Rattle.std.proofs.Common.{length, ◌-◌}
use Rattle.ticks.proofs.Marks.{Gridding}
use Rattle.ticks.proofs.grid.Given as goal

abbrev pub invariant-loop-i : goal.invariant-loop-i
invariant-loop-i l = Gridding l.marks l.g l.all l.j l.initial.runs l.runs l.reach.n l.reach.at l.reach.met l.seen l.i

abbrev pub decreases-loop-i : goal.decreases-loop-i
decreases-loop-i l = length l.marks - l.i
