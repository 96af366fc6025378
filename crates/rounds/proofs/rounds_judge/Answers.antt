-- One law for each way out (proofs/Replies.antt).
use Rattle.std.proofs.Common.{refl}
use Rattle.records.specs.Refusals.{room}
use Rattle.records.proofs.Parts.{sizes-long}
use Rattle.judge.proofs.Exits.{passed}
use Rattle.judge.proofs.Replies.{called-sizes, called-room, called-as, room-long}
use Rattle.rounds.specs.Rounds.{rounds_body}
use Rattle.rounds.proofs.Bodies.{rounds-high}
use Rattle.rounds.proofs.Replies.{judged}
use Rattle.rounds.proofs.rounds_judge.Goals as goal

pub returns-in_err-sizes : goal.returns-in_err-sizes
returns-in_err-sizes c = rw (passed _ _ c.from_residual.ensures.1) (judged _ _ _ (called-sizes _ _ _ _ _ c.in_err-sizes.ensures))

pub returns-in_err-when : goal.returns-in_err-when
unfolding room
returns-in_err-when c =
    rw (passed _ _ c.from_residual-in_err-when.ensures.1)
    (judged _ _ _ (called-room _ _ _ _ c.in_ok-sizes.ensures.0 _ c.in_err-when.ensures))

pub read-r-requires : goal.read-r-requires
read-r-requires c = sizes-long _ _ c.in_ok-sizes.ensures.0

pub answer-requires : goal.answer-requires
unfolding room
answer-requires c = room-long _ c.in_ok-when.ensures.0

pub returns : goal.returns
unfolding room
returns c =
    judged _ _ _
    (called-as _ _ _ (λ r. rounds_body r c.args.slots.now) _ _ _ _ c.in_ok-sizes.ensures.0 c.in_ok-when.ensures.0 c.read-r.ensures c.outcome.ensures
    (rounds-high c.read-r.result c.args.slots.now _ refl) c.answer.ensures.0 c.answer.ensures.1)
