-- The loop's invariant, `Sweeping` (proofs/Sweeps.antt): for every set of ticks, both cursors, the supply between them and the edges written
-- are as the set has them, and for some set they are so. The measure is the runs that both cursors have left.
use Rattle.std.proofs.Common.{◌+◌, ◌-◌, length}
use Rattle.late.specs.Late.{way_of}
use Rattle.late.proofs.Sweeps.{Sweeping}
use Rattle.late.proofs.Course.sweep.Given as goal

abbrev pub invariant-loop-k : goal.invariant-loop-k
invariant-loop-k l = Sweeping (way_of l.self) l.initial.k l.fn.out l.k l.out

abbrev pub decreases-loop-k : goal.decreases-loop-k
decreases-loop-k l = length l.self.runs.edges.now + 1 - l.k.near.run + (length l.self.part.now + 1 - l.k.far.run)
