-- The laws are in proofs/Bytes.antt.
use Rattle.grants.proofs.Bytes.{Giving}
use Rattle.grants.proofs.marks.give.Given as goal

abbrev pub invariant-loop-mark : goal.invariant-loop-mark
invariant-loop-mark l = Giving l.initial.marks l.j l.marks l.seen l.mark-index
