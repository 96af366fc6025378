-- The job's slots are laid out as runs, and what holds of every set of ticks that they lay out holds of the job's. Assumes nothing.
use Rattle.room.proofs.Handed.{found}
use Rattle.walk.proofs.lent.worst_in.Goals as goal

pub returns : goal.returns
returns g c = found _ _ _ _ c.worst_in.ensures _ c.lay-n.ensures.laid
