-- Each record is seen in its turn (proofs/Walks.antt). Assumes nothing.
use Rattle.std.proofs.Common.{arith, length-append, max, ◌≡◌, ◌∙◌, ap}
use Rattle.walk.proofs.Walks.{seen_none, seen_more, seen_all}
use Rattle.walk.proofs.steps.largest.Goals as goal

pub loop-task-init : goal.loop-task-init
loop-task-init c =
    let came = c.into_iter-task-iterator.ensures.into_iter_gives in
    seen_none _ _ _ (ap (λ x. x.rest.now) came ∙ c.chunks_exact-task-items.ensures.rest)
    (ap (λ x. x.size) came ∙ c.chunks_exact-task-items.ensures.size)

pub loop-task-preserved-then-w-le-MOST_TICKS : goal.loop-task-preserved-then-w-le-MOST_TICKS
loop-task-preserved-then-w-le-MOST_TICKS c =
    let step = c.in-Some.ensures.steps in
    let inv = c.loop-task.invariant in
    let larger : c.max-most.result ≡ max c.loop-task.most c.four-w.result = c.max-most.ensures in
    seen_more _ _ _ _ _ _ _ _ _ _ _ inv (length-append _ _) step.0 step.1 c.four-w.ensures
    (omega arith, omega (arith, inv.most), λ _. omega arith)

pub loop-task-preserved : goal.loop-task-preserved
loop-task-preserved c =
    let step = c.in-Some.ensures.steps in
    let inv = c.loop-task.invariant in
    let high = c.if-w-le-MOST_TICKS.false in
    seen_more _ _ _ _ _ _ _ _ _ _ _ inv (length-append _ _) step.0 step.1 c.four-w.ensures
    (omega arith, inv.most, λ low. absurd (omega arith))

pub returns : goal.returns
returns c = seen_all _ _ _ _ _ c.loop-task.invariant c.in-None.ensures.steps.1.0
