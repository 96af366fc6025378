-- So many of the marks so far are free.
use Rattle.std.proofs.Common.{◌≡◌, ◌≤◌}
use Rattle.rules.specs.Sums.{number}
use Rattle.ticks.specs.Ticks.{free_of}
use Rattle.grants.proofs.marks.free.Given as goal

abbrev pub invariant-loop-mark : goal.invariant-loop-mark
invariant-loop-mark l = (l.n ≡ number (free_of l.marks) l.mark-index) × (l.n ≤ l.mark-index)
