-- Whole turns and what is left over beside them make all strips (proofs/Carried.antt, `turned`).
use Rattle.maps.proofs.Carried.{turned}
use Rattle.maps.proofs.tally.Goals as goal

pub returns : goal.returns
returns c = turned _ c.requires.0 c.along-left.ensures.0 c.along-others.ensures.0
