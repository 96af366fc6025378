-- `above` is firm and nothing below `below` is. The measure is the distance. The laws are in proofs/Halves.antt.
use Rattle.std.proofs.Common.{◌-◌}
use Rattle.limits.specs.Limits.{asked}
use Rattle.grants.specs.Grants.{Halving}
use Rattle.grants.proofs.offer.Offer.halve.Given as goal

abbrev pub invariant-loop-below : goal.invariant-loop-below
invariant-loop-below l = Halving l.self.marks.now l.self.grid (asked l.self.task) l.below l.above

abbrev pub decreases-loop-below : goal.decreases-loop-below
decreases-loop-below l = l.above - l.below
