-- What is accepted is asked, and the reply is what it answers (proofs/Gates.antt).
use Rattle.records.specs.Refusals.{beyond}
use Rattle.records.proofs.Parts.{sizes-long}
use Rattle.judge.proofs.Exits.{passed}
use Rattle.rounds.proofs.Gates.{count-sizes, count-body, count-beyond, count-asked, counted}
use Rattle.rounds.proofs.rounds_count.Goals as goal

pub returns-in_err-sizes : goal.returns-in_err-sizes
returns-in_err-sizes c = rw (passed _ _ c.from_residual.ensures.1) (count-sizes _ _ _ _ c.in_err-sizes.ensures)

pub read-requires : goal.read-requires
read-requires c = sizes-long _ _ c.in_ok-sizes.ensures.0

pub returns-in_err-job : goal.returns-in_err-job
returns-in_err-job c = rw (passed _ _ c.from_residual-in_err-job.ensures.1) (count-body _ _ _ c.in_ok-sizes.ensures.0 _ c.read.ensures _ c.in_err-job.ensures)

pub returns-in_err-when : goal.returns-in_err-when
unfolding beyond
returns-in_err-when c = rw (passed _ _ c.from_residual-in_err-when.ensures.1) (count-beyond _ _ _ c.in_ok-sizes.ensures.0 _ c.read.ensures _ c.in_ok-job.ensures _ c.in_err-when.ensures)

pub count-requires : goal.count-requires
unfolding beyond
count-requires c = count-asked _ _ _ _ c.in_ok-job.ensures c.in_ok-when.ensures.0

pub returns : goal.returns
unfolding beyond
returns c =
    counted _ _ _ c.in_ok-sizes.ensures.0 _ c.read.ensures _ c.in_ok-job.ensures c.in_ok-when.ensures.0 _ c.count.ensures
