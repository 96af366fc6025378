-- The loop's invariant: the runs before run i are drawn, up to where it starts (`Drawing`).
use Rattle.maps.proofs.Draws.{Drawing}
use Rattle.maps.proofs.draw.Given as goal

abbrev pub invariant-loop-i : goal.invariant-loop-i
invariant-loop-i l = Drawing l.runs.edges.now l.runs.w l.fn.map l.map l.i l.at
