-- No record needs more than the size that was chosen (proofs/Walks.antt). Assumes nothing.
use Rattle.std.proofs.Common.{lit≤}
use Rattle.walk.proofs.Walks.{fitting-more}
use Rattle.walk.proofs.walk.Goals as goal

pub on-requires : goal.on-requires
on-requires c = (c.requires, fitting-more _ _ _ c.largest.ensures.0 c.if-largest-le2048.true, lit≤ tt)

pub on-requires-2 : goal.on-requires-2
on-requires-2 c = (c.requires, fitting-more _ _ _ c.largest.ensures.0 c.largest.ensures.1, lit≤ tt)
