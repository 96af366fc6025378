-- The same slots give the same count (proofs/Boards.antt).
use Rattle.promises.proofs.Boards.{same-packed}
use Rattle.promises.proofs.others.count.Goals as goal

pub returns : goal.returns
returns c = same-packed (c.args.boards.twins, c.args.boards.same) _ (λ same. same.counted _) c.fiddlequill_count.ensures c.fiddlequill_count-2.ensures
