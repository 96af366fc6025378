-- The loop's invariant: the ticks from `from` to `tick` have the value (`Stretched`).
use Rattle.maps.specs.Maps.{Stretched}
use Rattle.maps.proofs.stretch.Given as goal

abbrev pub invariant-loop-tick : goal.invariant-loop-tick
invariant-loop-tick l = Stretched l.fn.map l.map l.from l.tick l.value
