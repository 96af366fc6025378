-- Judged on equal bytes: number and reply are equal.
use Rattle.promises.proofs.Settled.{twice, judge-settled}
use Rattle.promises.proofs.twice.fiddlequill_judge.Goals as goal

pub returns : goal.returns
returns c = twice (judge-settled _ _) c.requires c.fiddlequill_judge.ensures c.fiddlequill_judge-2.ensures
