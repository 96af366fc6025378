-- Behind the sizes stands the board (proofs/Ways.antt).
use Rattle.which.proofs.Ways.{which_board}
use Rattle.which.proofs.which_slot.Goals as goal

pub returns : goal.returns
returns c = which_board _ _ _ c.read.ensures c.in_ok-sizes.ensures.0 c.first_trouble.ensures
