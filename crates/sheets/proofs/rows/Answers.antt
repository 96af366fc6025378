-- `sheets::rows` meets its contract: a line more for each record. Assumes nothing.
use Rattle.std.proofs.Common.{◌≡◌, ap, ◌∙◌, arith, ◌<◌, length}
use Rattle.records.specs.Records.{whole}
use Rattle.std.specs.Slice.Iter.{chunks_exact_rest, chunks_exact_size}
use Rattle.std.proofs.lemmas.List.{length_push}
use Rattle.sheets.proofs.Fills.{going-none, going-room, going_more, going-all}
use Rattle.sheets.proofs.rows.Goals as goal

pub loop-task-init : goal.loop-task-init
loop-task-init c =
    let e : c.into_iter-task-iterator.result ≡ c.chunks_exact-task-items.result = c.into_iter-task-iterator.ensures.into_iter_gives in (
      rw (ap chunks_exact_rest e ∙ c.chunks_exact-task-items.ensures.rest) (going-none _ _ _),
      ap chunks_exact_size e ∙ c.chunks_exact-task-items.ensures.size,
    )

pub row-at-requires : goal.row-at-requires
row-at-requires c =
    let step = c.in-Some.ensures.steps.1 in
    let g = c.loop-task.invariant.0 in
    let more : length c.loop-task.yielded < whole c.args.tasks.now = going-room _ _ g step.0 (step.1 ∙ c.loop-task.invariant.1) in
    omega (arith, g.put.short, c.requires, g.same)

pub loop-task-preserved : goal.loop-task-preserved
loop-task-preserved c =
    let step = c.in-Some.ensures.steps in (
      rw (length_push c.loop-task.yielded c.in-Some.task)
          (going_more _ _ c.loop-task.invariant.0 step.1.0 (step.1.1 ∙ c.loop-task.invariant.1) c.row-at.ensures c.row-at.auto.out),
      step.0 ∙ c.loop-task.invariant.1,
    )

pub returns : goal.returns
returns c =
    let less = c.in-None.ensures.steps.1.0 in
    going-all c.loop-task.invariant.0 (omega (arith, less, c.loop-task.invariant.1))
