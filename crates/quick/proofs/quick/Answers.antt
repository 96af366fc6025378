-- One law for each way out (proofs/Replies.antt). Assumes nothing.
use Rattle.records.proofs.Parts.{sizes-long}
use Rattle.records.proofs.Accepts.{good-checked}
use Rattle.quick.proofs.Exits.{passed}
use Rattle.quick.proofs.Replies.{quick-sizes, quick-refused, quick-answered}
use Rattle.quick.proofs.quick.Goals as goal

pub returns-in_err-sizes : goal.returns-in_err-sizes
returns-in_err-sizes c = rw (passed _ _ c.from_residual.ensures.1) (quick-sizes _ _ _ c.in_err-sizes.ensures)

pub read-requires : goal.read-requires
read-requires c = sizes-long _ _ c.in_ok-sizes.ensures.0

pub returns-in_err-job : goal.returns-in_err-job
returns-in_err-job c = rw (passed _ _ c.from_residual-in_err-job.ensures.1) (quick-refused _ _ c.in_ok-sizes.ensures.0 _ c.read.ensures _ c.in_err-job.ensures)

pub invariant_of-accepted : goal.invariant_of-accepted
invariant_of-accepted c = record { good = good-checked _ _ _ c.in_ok-job.ensures }

pub returns : goal.returns
returns c = quick-answered _ _ c.in_ok-sizes.ensures.0 _ c.read.ensures _ _ c.in_ok-job.ensures c.firm.ensures
