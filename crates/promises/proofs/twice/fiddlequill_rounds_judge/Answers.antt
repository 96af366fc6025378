-- Judged on equal bytes: number and reply are equal.
use Rattle.promises.proofs.Settled.{twice, rounds-judge-settled}
use Rattle.promises.proofs.twice.fiddlequill_rounds_judge.Goals as goal

pub returns : goal.returns
returns c = twice (rounds-judge-settled _ _) c.requires c.fiddlequill_rounds_judge.ensures c.fiddlequill_rounds_judge-2.ensures
