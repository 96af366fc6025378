-- The loops' invariants: four strips for each turn so far are counted, and of the next four so many as have gone on (`Carried`); then so many of
-- those that are left over (`Counting`).
use Rattle.std.proofs.Common.{◌+◌, ◌*◌, ◌/◌}
use Rattle.maps.proofs.Carried.{Counting, Carried}
use Rattle.maps.proofs.along.Given as goal

abbrev pub invariant-loop : goal.invariant-loop
invariant-loop l = Carried l.map l.h l.k l.p l.four l.met (4 * l.counter) 0 l.places

abbrev pub invariant-loop-place : goal.invariant-loop-place
invariant-loop-place l = Carried l.map l.h l.k l.p l.four l.met (4 * l.counter) l.place-index l.place-items

abbrev pub invariant-loop-last : goal.invariant-loop-last
invariant-loop-last l = Counting l.map l.h l.k l.p l.met (4 * (l.k / 4) + l.last-index)
