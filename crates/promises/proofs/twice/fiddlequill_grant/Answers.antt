-- Granted on equal marks, packed number and marks are equal.
use Rattle.promises.proofs.Settled.{packed-settled}
use Rattle.promises.proofs.twice.fiddlequill_grant.Goals as goal

pub returns : goal.returns
returns c = packed-settled _ _ _ _ _ _ _ _ _ _ _ _ (rw c.requires at c.fiddlequill_grant.ensures) c.fiddlequill_grant-2.ensures
