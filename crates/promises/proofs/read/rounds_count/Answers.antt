-- The count fits the lower half of the packed number.
use Rattle.promises.proofs.Bounds.{both, unpacked-rounds}
use Rattle.promises.proofs.read.rounds_count.Goals as goal

pub returns : goal.returns
returns c = both c.unpack.ensures (unpacked-rounds _ _ _ _ c.fiddlequill_rounds_count.ensures)
