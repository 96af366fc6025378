-- The first j free slots are laid out as runs, and what holds of every set of ticks that they lay out holds of the grant's
-- (proofs/Trials.antt).
use Rattle.room.proofs.Handed.{decided}
use Rattle.grants.proofs.Trials.{trial-says}
use Rattle.grants.proofs.offer.Offer.firm.Goals as goal

pub returns : goal.returns
returns c =
    trial-says _ c.args.self.grid _ _ _ (decided _ _ _ _ c.firm.ensures _ c.grid-n.ensures.laid)
