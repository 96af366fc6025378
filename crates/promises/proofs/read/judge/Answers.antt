-- What judging wrote, field by field (proofs/Replies.antt).
use Rattle.promises.proofs.Replies.{small, told}
use Rattle.promises.proofs.read.judge.Goals as goal

pub returns : goal.returns
returns c =
    told _ _ _ _ (small c.args.task.now 0 c.type_inv.task) _ c.requires
    (rw c.fields.ensures.number c.fiddlequill_judge-number.ensures) c.fields.ensures
