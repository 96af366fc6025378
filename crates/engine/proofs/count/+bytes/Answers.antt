-- Two strips are one and one, an odd number k − 1 and one, an even number its half twice (`counted-add`); each turn is
-- within its bounds (`turning`).
use Rattle.std.proofs.Common.{arith}
use Rattle.engine.proofs.Counts.{counted-one, counted-add, turning}
use Rattle.engine.proofs.count.+bytes.Goals as goal

pub returns-then-k-eq2 : goal.returns-then-k-eq2
returns-then-k-eq2 t c =
    let one = counted-one c.requires.0.step in
    counted-add c.if-k-eq2.true c.requires.0 one one (omega (arith, c.turned.auto, c.requires)) c.turned.ensures

pub turned-requires-then-k-eq1 : goal.turned-requires-then-k-eq1
turned-requires-then-k-eq1 t c =
    turning c.requires.0 c.bytes-s.ensures (counted-one c.requires.0.step) (omega (arith, c.bytes-s.auto, c.requires))
    (omega (arith, c.requires))

pub returns-then-k-eq1 : goal.returns-then-k-eq1
returns-then-k-eq1 t c =
    counted-add (omega arith) c.requires.0 c.bytes-s.ensures (counted-one c.requires.0.step)
    (omega (arith, c.turned-then-k-eq1.auto, c.bytes-s.auto, c.requires)) c.turned-then-k-eq1.ensures

pub turned-requires-2 : goal.turned-requires-2
turned-requires-2 t c =
    let half = c.bytes-s-2.ensures in
    turning c.requires.0 half half (omega (arith, c.bytes-s-2.auto, c.requires)) (omega (arith, c.requires))

pub returns : goal.returns
returns t c =
    let half = c.bytes-s-2.ensures in
    counted-add (omega arith) c.requires.0 half half (omega (arith, c.turned-2.auto, c.bytes-s-2.auto, c.requires))
    c.turned-2.ensures
