-- The first i slots are good and end at `before` (proofs/Walk.antt).
use Rattle.records.specs.Records.{slot_at}
use Rattle.records.proofs.Walk.{Passed}
use Rattle.records.proofs.board.first_bad.Given as goal

abbrev pub invariant-loop-i : goal.invariant-loop-i
invariant-loop-i l = Passed l.w (slot_at l.slots l.first) l.count l.before l.i-counter
