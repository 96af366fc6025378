-- The same slots give the same supply (proofs/Boards.antt).
use Rattle.promises.proofs.Boards.{same-packed}
use Rattle.promises.proofs.others.supply.Goals as goal

pub returns : goal.returns
returns c = same-packed (c.args.boards.twins, c.args.boards.same) _ (λ same. same.supplied _) c.fiddlequill_supply.ensures c.fiddlequill_supply-2.ensures
