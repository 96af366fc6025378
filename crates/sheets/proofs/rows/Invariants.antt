-- `sheets::rows` meets its contract. The loop's invariant: the lines of the records so far stand at the start of `out`, and the others are left.
-- Assumes nothing.
use Rattle.std.proofs.Common.{◌≡◌, length}
use Rattle.std.specs.Slice.Iter.{chunks_exact_rest, chunks_exact_size}
use Rattle.records.specs.Records.{task_bytes}
use Rattle.sheets.proofs.Fills.{Going}
use Rattle.sheets.proofs.rows.Given as goal

abbrev pub invariant-loop-task : goal.invariant-loop-task
invariant-loop-task l =
    Going l.tasks l.slots l.initial.out l.out (chunks_exact_rest l.task-iterator) l.at (length l.yielded)
    × (chunks_exact_size l.task-iterator ≡ task_bytes)
