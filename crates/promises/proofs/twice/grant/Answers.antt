-- Granted on equal marks, answer and marks are equal.
use Rattle.promises.proofs.Settled.{grant-settled, same-answers}
use Rattle.promises.proofs.twice.grant.Goals as goal

pub returns : goal.returns
returns c =
    let same = grant-settled _ _ _ _ _ _ _ _ _ _ _ _ _ _ (rw c.requires at c.grant.ensures) c.grant-2.ensures in
    (same-answers 0 _ _ (same.0, same.1), same.2)
