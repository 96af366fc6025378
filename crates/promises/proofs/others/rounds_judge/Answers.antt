-- The same slots give the same number and reply (proofs/Boards.antt).
use Rattle.promises.proofs.Boards.{rounds-are-silent}
use Rattle.promises.proofs.others.rounds_judge.Goals as goal

pub returns : goal.returns
returns c =
    (rounds-are-silent _ _ _ _ c.args.boards.twins c.args.boards.same).judged _ _ _ _ _ (rw c.requires at c.fiddlequill_rounds_judge.ensures) c.fiddlequill_rounds_judge-2.ensures
