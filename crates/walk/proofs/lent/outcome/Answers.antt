-- What is found for an accepted job is what comes of its record (crates/judge/proofs/Replies.antt): its wheel fits what is lent. Assumes nothing.
use Rattle.std.proofs.Common.{arith}
use Rattle.records.proofs.Accepts.{good-checked}
use Rattle.judge.proofs.Replies.{outcome-found}
use Rattle.walk.proofs.Walks.{fits_job}
use Rattle.walk.proofs.lent.outcome.Goals as goal

pub invariant_of-accepted : goal.invariant_of-accepted
invariant_of-accepted g c = record { good = good-checked _ _ _ c.in_ok-job.ensures }

pub worst_in-requires : goal.worst_in-requires
worst_in-requires g c =
    let ok = c.in_ok-job.ensures in
    (omega arith, fits_job _ _ _ ok.1 (good-checked _ _ _ ok).most c.requires)

pub found-requires : goal.found-requires
found-requires g c = (good-checked _ _ _ c.in_ok-job.ensures).within.painted

pub returns : goal.returns
returns g c = outcome-found _ _ _ _ _ _ c.in_ok-job.ensures c.worst_in.ensures c.found.ensures
