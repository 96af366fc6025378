-- Each run is drawn up to its end (`mark-next`), behind the last one all of the wheel (`mark-end`). The loop ends by its test, or by its step
-- behind the last run (`returns-2`).
use Rattle.std.proofs.Common.{arith}
use Rattle.runs.proofs.Ordered.{runs_in}
use Rattle.orbits.proofs.Marks.{mark-start, mark-to, mark-next, mark-end}
use Rattle.orbits.proofs.mark.Goals as goal

pub loop-run-init : goal.loop-run-init
loop-run-init c = mark-start (runs_in c.args.runs.runs) c.requires

pub slice_bounds-fill-end : goal.slice_bounds-fill-end
slice_bounds-fill-end c = mark-to c.loop-run.invariant c.requires c.end-end.ensures

pub loop-run-preserved : goal.loop-run-preserved
loop-run-preserved c =
    mark-next c.loop-run.invariant c.requires c.end-end.ensures c.loop-run-test.true (c.fill.ensures.after (λ y e. e))

pub returns-2 : goal.returns-2
returns-2 c =
    mark-end
    (mark-next c.loop-run.invariant c.requires c.end-end.ensures c.loop-run-test.true (c.fill.ensures.after (λ y e. e)))
    (omega arith)
