-- Both engines' numbers and replies are equal but for 9 (proofs/Rounds.antt).
use Rattle.promises.proofs.Rounds.{engines-agree}
use Rattle.promises.proofs.engines.judge.Goals as goal

pub returns : goal.returns
returns c = engines-agree _ _ _ _ _ _ _ (rw c.requires at c.fiddlequill_judge.ensures) c.fiddlequill_rounds_judge.ensures
