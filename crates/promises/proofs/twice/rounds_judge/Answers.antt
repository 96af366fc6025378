-- Judged on equal bytes: answer and reply are equal.
use Rattle.promises.proofs.Settled.{twice, rounds-judge-settled, same-refusals}
use Rattle.promises.proofs.twice.rounds_judge.Goals as goal

pub returns : goal.returns
returns c =
    let same = twice (rounds-judge-settled _ _) c.requires c.rounds_judge.ensures c.rounds_judge-2.ensures in
    (same-refusals _ _ same.0, same.1)
