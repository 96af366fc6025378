-- `ticks::row`: the slots from slot i to slot k are granted.
use Rattle.std.proofs.Common.{◌≤◌}
use Rattle.ticks.specs.Ticks.{GivenRow}
use Rattle.ticks.proofs.row.Given as goal

abbrev pub invariant-loop-k : goal.invariant-loop-k
invariant-loop-k l = (l.seen ≤ l.i) × GivenRow l.marks l.i l.seen l.j l.k
