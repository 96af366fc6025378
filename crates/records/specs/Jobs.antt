-- An accepted job: what its checks have shown of it, and the ticks it has. Definitions only.
--
--     job_ticks l j    the ticks that its owner's slots make usable (rule 1)
--     Good l j         the job's part of the slot buffer l is a good table, and its numbers are within the bounds
use Rattle.std.specs.Prelude.{◌≡◌, List, ℕ, ◌+◌, ◌/◌, ◌≤◌, ◌<◌, length}
use Rattle.rules.specs.Sums.{Subset}
use Rattle.rules.specs.Usable.{usable}
use Rattle.limits.specs.Limits.{most_ticks, most_slots, Within}
use Rattle.records.specs.Records.{slot_bytes, slot_at, board}
use Rattle.records.specs.Refusals.{first_bad}
use Rattle.records.specs.declared.Job.{Job}

abbrev pub job_ticks : List ℕ → Job → Subset
job_ticks l j = usable j.wheel.w (board l j.first j.count j.owner)

pub record Good (l : List ℕ) (j : Job) : Type 0 where
  pub part : j.first + j.count ≤ length l / slot_bytes
  pub table : first_bad j.wheel.w (slot_at l j.first) j.count ≡ 0
  pub some : 0 < j.wheel.w
  pub most : j.wheel.w ≤ most_ticks
  pub slots : j.count ≤ most_slots
  pub within : Within j.task
