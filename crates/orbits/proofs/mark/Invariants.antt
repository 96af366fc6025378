-- The loop's invariant: the runs before this one are drawn, up to where it starts (`Marking`).
use Rattle.orbits.proofs.Marks.{Marking}
use Rattle.orbits.proofs.mark.Given as goal

abbrev pub invariant-loop-run : goal.invariant-loop-run
invariant-loop-run l = Marking l.runs.edges.now l.fn.map l.map l.run l.at
