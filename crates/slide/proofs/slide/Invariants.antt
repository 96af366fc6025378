-- The loop's invariant: the best is no worse than tick 0 nor than any tick from which a strip arrives at a start listed before `entry` (`Starts`).
-- The measure is what is left of the entries.
use Rattle.std.proofs.Common.{◌-◌, length}
use Rattle.slide.proofs.Slides.{Starts}
use Rattle.slide.proofs.slide.Given as goal

abbrev pub invariant-loop-entry : goal.invariant-loop-entry
invariant-loop-entry l = Starts l.zones l.map l.s l.k l.best.drops l.best.at l.entry

abbrev pub decreases-loop-entry : goal.decreases-loop-entry
decreases-loop-entry l = length l.zones - l.entry
