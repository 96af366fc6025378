-- What is found for an accepted job is what comes of its record (proofs/Replies.antt). Assumes nothing.
use Rattle.records.proofs.Accepts.{good-checked}
use Rattle.judge.proofs.Replies.{outcome-found}
use Rattle.judge.proofs.outcome.Goals as goal

pub invariant_of-accepted : goal.invariant_of-accepted
invariant_of-accepted c = record { good = good-checked _ _ _ c.in_ok-job.ensures }

pub found-requires : goal.found-requires
found-requires c = (good-checked _ _ _ c.in_ok-job.ensures).within.painted

pub returns : goal.returns
returns c = outcome-found _ _ _ _ _ _ c.in_ok-job.ensures c.worst.ensures c.found.ensures
