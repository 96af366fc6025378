-- The loop's invariant: an even number i of runs is counted, up to where run i starts (`Meeting`). The measure is what is left of the runs.
use Rattle.std.proofs.Common.{◌-◌, length}
use Rattle.orbits.proofs.Members.{Meeting}
use Rattle.orbits.proofs.met.Given as goal

abbrev pub invariant-loop-i : goal.invariant-loop-i
invariant-loop-i l = Meeting l.runs.edges.now l.runs.w l.g l.c l.n l.i

abbrev pub decreases-loop-i : goal.decreases-loop-i
decreases-loop-i l = length l.runs.edges.now - l.i
