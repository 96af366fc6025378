-- `counts::below`: two runs a step. The laws are in proofs/Along.antt.
use Rattle.std.proofs.Common.{suc, ◌+◌, arith}
use Rattle.runs.proofs.Edges.{edge-past}
use Rattle.counts.proofs.Along.{passed_none, passed-out, passed-order, passed-in, passed-both}
use Rattle.counts.proofs.below.Goals as goal

pub loop-i-init : goal.loop-i-init
loop-i-init c = passed_none c.args.runs.edges.now c.args.runs.w c.args.x

pub returns-then-x-from : goal.returns-then-x-from
returns-then-x-from c = passed-out _ _ _ _ _ c.args.runs.runs c.loop-i.invariant (omega arith)

-- No more ticks are passed than a wheel has.
pub overflow_add-result : goal.overflow_add-result
overflow_add-result c = omega (arith, c.loop-i.invariant)

pub returns-then-x-to : goal.returns-then-x-to
returns-then-x-to c =
    passed-in _ _ _ _ _ c.args.runs.runs c.loop-i.invariant _ _ c.end-from.ensures c.end-to.ensures _ (omega arith) c.if-x-to.true

pub overflow_sub-passed : goal.overflow_sub-passed
overflow_sub-passed c =
    passed-order _ _ _ _ _ c.args.runs.runs c.loop-i.invariant _ _ c.end-from.ensures c.end-to.ensures

pub overflow_add-passed : goal.overflow_add-passed
overflow_add-passed c = omega (arith, c.loop-i.invariant)

pub loop-i-preserved : goal.loop-i-preserved
loop-i-preserved c =
    passed-both _ _ _ _ _ c.args.runs.runs c.loop-i.invariant _ _ c.end-from.ensures c.end-to.ensures (omega arith)

pub returns : goal.returns
returns c =
    passed-out _ _ _ _ _ c.args.runs.runs c.loop-i.invariant
    (omega (arith, edge-past c.args.runs.edges.now c.args.runs.w (suc c.loop-i.i) (omega arith)))

-- The last two runs.
pub returns-else-x-to : goal.returns-else-x-to
returns-else-x-to c =
    passed-out _ _ _ _ _ c.args.runs.runs
    (passed-both _ _ _ _ _ c.args.runs.runs c.loop-i.invariant _ _ c.end-from.ensures c.end-to.ensures (omega arith))
    (omega (arith, edge-past c.args.runs.edges.now c.args.runs.w (suc (c.loop-i.i + 2)) (omega arith)))
