-- The supply fits the lower half of the packed number.
use Rattle.promises.proofs.Bounds.{both, unpacked-supply}
use Rattle.promises.proofs.read.supply.Goals as goal

pub returns : goal.returns
returns c = both c.unpack.ensures (unpacked-supply _ _ _ _ c.fiddlequill_supply.ensures)
