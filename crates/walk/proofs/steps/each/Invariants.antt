-- The records so far are judged (proofs/Walks.antt).
use Rattle.walk.specs.Walk.{Walked}
use Rattle.walk.proofs.steps.each.Given as goal

abbrev pub invariant-loop-i : goal.invariant-loop-i
invariant-loop-i g l = Walked l.tasks l.slots l.fn.reply l.i l.reply
