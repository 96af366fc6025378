-- The first largest of the counts is the map's crest (`crest-of`), and for one strip the map is its own count
-- (`crest-one`).
use Rattle.std.proofs.Math.Seq.{take_at}
use Rattle.engine.proofs.Crests.{crest-of, crest-one}
use Rattle.engine.proofs.by_bytes.Goals as goal

pub returns-then-k-eq1 : goal.returns-then-k-eq1
returns-then-k-eq1 c = crest-one _ _ c.if-k-eq1.true c.requires.0.some c.of.ensures

pub returns : goal.returns
returns c = crest-of _ c.bytes.ensures (take_at _ _ _ c.bytes.ensures.as_long) c.of-2.ensures
