-- The loop's invariant: m is the largest entry so far, or the first where there is none yet (`Most`).
use Rattle.std.proofs.Common.{length}
use Rattle.engine.specs.First.{Most}
use Rattle.engine.proofs.crest.largest.Given as goal

abbrev pub invariant-loop-v : goal.invariant-loop-v
invariant-loop-v g l =
    Most (g.T.Entry.values l.block) 0 l.v-index (length (g.T.Entry.values l.block)) (g.T.Entry.value l.m)
