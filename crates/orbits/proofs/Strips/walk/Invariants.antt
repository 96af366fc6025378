-- The loop's invariant: the first i strips are counted, and the next arrives at `at` (`Walked`).
use Rattle.orbits.proofs.Laps.{Walked}
use Rattle.orbits.proofs.Strips.walk.Given as goal

abbrev pub invariant-loop-i : goal.invariant-loop-i
invariant-loop-i l = Walked l.self.map.now l.self.s l.n l.p l.at l.met l._i
