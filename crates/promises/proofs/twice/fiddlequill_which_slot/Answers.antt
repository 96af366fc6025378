-- The packed numbers are equal.
use Rattle.promises.proofs.Settled.{packed-which-settled}
use Rattle.promises.proofs.twice.fiddlequill_which_slot.Goals as goal

pub returns : goal.returns
returns c = packed-which-settled _ _ _ _ c.fiddlequill_which_slot.ensures c.fiddlequill_which_slot-2.ensures
