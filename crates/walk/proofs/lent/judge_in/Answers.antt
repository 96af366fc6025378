-- By a law of judging (crates/judge/proofs/Replies.antt). Assumes nothing.
use Rattle.records.proofs.Parts.{sizes-long}
use Rattle.judge.proofs.Replies.{judged-as, room-none}
use Rattle.walk.proofs.lent.judge_in.Goals as goal

pub read-r-requires : goal.read-r-requires
read-r-requires g c = sizes-long _ _ c.requires.sizes.0

pub returns : goal.returns
returns g c =
    let given = c.requires.sizes in
    judged-as _ _ _ given.0 _ _ _ _ (room-none _ given.1) c.read-r.ensures c.outcome.ensures c.answer.ensures.0 c.answer.ensures.1
