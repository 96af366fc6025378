-- The count fits the lower half of the packed number.
use Rattle.promises.proofs.Bounds.{both, unpacked-count}
use Rattle.promises.proofs.read.count.Goals as goal

pub returns : goal.returns
returns c = both c.unpack.ensures (unpacked-count _ _ _ _ c.fiddlequill_count.ensures)
