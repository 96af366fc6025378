-- The loop's invariant: the edges before edge i are below x.
use Rattle.std.proofs.Common.{ℕ, ◌<◌, get_or}
use Rattle.late.proofs.find.Given as goal

abbrev pub invariant-loop-i : goal.invariant-loop-i
invariant-loop-i l = (k : ℕ) → k < l.i → get_or l.runs.edges.now k 0 < l.x
