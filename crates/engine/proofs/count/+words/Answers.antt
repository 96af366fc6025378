-- An odd number of strips is k − 1 and one, an even number its half twice (`counted-add`), the half in bytes where it
-- fits them; each turn is within its bounds (`turning`).
use Rattle.std.proofs.Common.{arith}
use Rattle.engine.proofs.Counts.{counted-one, counted-add, turning}
use Rattle.engine.proofs.count.+words.Goals as goal

pub turned-requires : goal.turned-requires
turned-requires t c =
    turning c.requires.0 c.words-s.ensures (counted-one c.requires.0.step) (omega (arith, c.words-s.auto, c.requires))
    (omega (arith, c.requires))

pub returns-then-k-eq1 : goal.returns-then-k-eq1
returns-then-k-eq1 t c =
    counted-add (omega arith) c.requires.0 c.words-s.ensures (counted-one c.requires.0.step)
    (omega (arith, c.turned.auto, c.words-s.auto, c.requires)) c.turned.ensures

pub returns-then-k-lt-BYTE_END : goal.returns-then-k-lt-BYTE_END
returns-then-k-lt-BYTE_END t c =
    let half = c.bytes-s.ensures in
    counted-add (omega arith) c.requires.0 half half (omega (arith, c.turned-then-k-lt-BYTE_END.auto, c.requires)) c.turned-then-k-lt-BYTE_END.ensures

pub turned-requires-2 : goal.turned-requires-2
turned-requires-2 t c =
    let half = c.words-s-2.ensures in
    turning c.requires.0 half half (omega (arith, c.words-s-2.auto, c.requires)) (omega (arith, c.requires))

pub returns : goal.returns
returns t c =
    let half = c.words-s-2.ensures in
    counted-add (omega arith) c.requires.0 half half (omega (arith, c.turned-2.auto, c.words-s-2.auto, c.requires))
    c.turned-2.ensures
