-- No record so far needs more (proofs/Walks.antt).
use Rattle.std.proofs.Common.{length}
use Rattle.walk.proofs.Walks.{Seen}
use Rattle.walk.proofs.steps.largest.Given as goal

abbrev pub invariant-loop-task : goal.invariant-loop-task
invariant-loop-task l = Seen l.tasks (length l.yielded) l.most l.task-iterator.rest.now l.task-iterator.size
