-- The loop's invariant: the nth strip from p on arrives at the start, its count goes beside the start's, the n strips from q on are taken
-- off, and the top is the rank of the best tick passed (`Back`).
use Rattle.slide.proofs.Slides.{Back}
use Rattle.slide.proofs.Strips.back.Given as goal

abbrev pub invariant-loop-n : goal.invariant-loop-n
invariant-loop-n l = Back l.map l.s l.k l.start l.top l.drops l.gone l.p l.q l._n
