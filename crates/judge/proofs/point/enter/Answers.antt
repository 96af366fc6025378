-- A task record that has a good length, and a job that was accepted. Assumes nothing.
use Rattle.records.proofs.Accepts.{good-checked}
use Rattle.records.proofs.Parts.{sizes-long}
use Rattle.judge.proofs.point.enter.Goals as goal

pub read-requires : goal.read-requires
read-requires c = sizes-long _ _ c.in_ok-sizes.ensures.0

pub invariant_of-result : goal.invariant_of-result
invariant_of-result c = record { good = good-checked _ _ _ c.in_ok-job.ensures }
