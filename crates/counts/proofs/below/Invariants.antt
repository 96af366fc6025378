-- `counts::below`: run i isn't usable and starts at or before x, and `passed` ticks before it are usable.
use Rattle.counts.proofs.Along.{Passed}
use Rattle.counts.proofs.below.Given as goal

abbrev pub invariant-loop-i : goal.invariant-loop-i
invariant-loop-i l = Passed l.runs.edges.now l.runs.w l.x l.passed l.i
