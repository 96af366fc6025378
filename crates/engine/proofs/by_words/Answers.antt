-- The first largest of the counts is the map's crest (`crest-of`).
use Rattle.std.proofs.Math.Seq.{take_at}
use Rattle.engine.proofs.Crests.{crest-of}
use Rattle.engine.proofs.by_words.Goals as goal

pub returns : goal.returns
returns c = crest-of _ c.words.ensures (take_at _ _ _ c.words.ensures.as_long) c.of.ensures
