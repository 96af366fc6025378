-- Judged on equal bytes: answer and reply are equal.
use Rattle.promises.proofs.Settled.{twice, judge-settled, same-refusals}
use Rattle.promises.proofs.twice.judge.Goals as goal

pub returns : goal.returns
returns c =
    let same = twice (judge-settled _ _) c.requires c.judge.ensures c.judge-2.ensures in
    (same-refusals _ _ same.0, same.1)
