-- The best at the end is the largest of all (proofs/Complete.antt). The loop ends by its test, or by its step behind the last start (`returns-2`).
use Rattle.std.proofs.Common.{arith}
use Rattle.slide.proofs.Slides.{starts-next}
use Rattle.slide.proofs.Complete.{top-all}
use Rattle.slide.proofs.slide.Goals as goal

pub loop-entry-preserved : goal.loop-entry-preserved
loop-entry-preserved c = starts-next c.loop-entry.invariant c.end-start.ensures c.back-best.ensures

pub returns : goal.returns
returns c = top-all c.requires.0 c.requires.1 c.loop-entry.invariant c.loop-entry-test.false

pub returns-2 : goal.returns-2
returns-2 c =
    top-all c.requires.0 c.requires.1 (starts-next c.loop-entry.invariant c.end-start.ensures c.back-best.ensures) (omega arith)
