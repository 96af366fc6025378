-- `counts::rest`: one law for each way out (proofs/Windows.antt).
use Rattle.std.proofs.Common.{arith}
use Rattle.counts.proofs.Along.{below-rises}
use Rattle.counts.proofs.Windows.{rest-inside, rest_over}
use Rattle.counts.proofs.rest.Goals as goal

pub overflow_sub-result : goal.overflow_sub-result
overflow_sub-result c = below-rises _ _ _ _ _ _ c.args.runs.runs (omega arith) c.below-gone.ensures c.below.ensures

pub returns-then-end-runs : goal.returns-then-end-runs
returns-then-end-runs c = rest-inside _ _ c.args.runs.runs _ _ _ _ c.below-gone.ensures c.below.ensures

pub overflow_sub-result-2 : goal.overflow_sub-result-2
overflow_sub-result-2 c = below-rises _ _ _ _ _ _ c.args.runs.runs (omega arith) c.below-gone.ensures c.below-2.ensures

pub returns : goal.returns
returns c =
    rest_over _ _ c.args.runs.runs _ _ _ _ _ (omega arith) (omega arith) c.below-2.ensures c.below-gone.ensures c.below-3.ensures
