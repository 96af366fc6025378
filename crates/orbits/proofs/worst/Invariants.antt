-- The loop's invariant: the best is the largest rank along the orbits from 0 to c − 1 (`Orbiting`). At the end that is the largest of all
-- (proofs/Laps.antt, `orbits-end`).
use Rattle.orbits.proofs.Laps.{Orbiting}
use Rattle.orbits.proofs.worst.Given as goal

abbrev pub invariant-loop-c : goal.invariant-loop-c
invariant-loop-c l = Orbiting l.map l.s l.k l.r l.orbits l.best l.c
