-- The loop's invariant: the round's first i strips are counted, and so are the n strips from p on, where the next arrives; q is behind their
-- last (`Lapping`).
use Rattle.orbits.proofs.Laps.{Lapping}
use Rattle.orbits.proofs.Strips.lap.Given as goal

abbrev pub invariant-loop-i : goal.invariant-loop-i
invariant-loop-i l = Lapping l.self.map.now l.self.s l.n l.r l.c l.drops l.p l.q l.round l.top l._i
