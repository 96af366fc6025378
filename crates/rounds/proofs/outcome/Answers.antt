-- What is found for an accepted job is what comes of its record (crates/judge/proofs/Replies.antt).
use Rattle.judge.proofs.Replies.{outcome-found}
use Rattle.rounds.proofs.Bodies.{ready-checked}
use Rattle.rounds.proofs.outcome.Goals as goal

pub worst-requires : goal.worst-requires
worst-requires c = ready-checked _ _ _ c.in_ok-job.ensures

pub found-requires : goal.found-requires
found-requires c = (ready-checked _ _ _ c.in_ok-job.ensures).long.painted

pub returns : goal.returns
returns c = outcome-found _ _ _ _ _ _ c.in_ok-job.ensures c.worst.ensures c.found.ensures
