-- An accepted job: what its slots are laid out in, and what is found of its ticks. Definitions only.
--
--     Holds j runs       the buffer has room for two edges a slot record of the job's board, for one at least, and no more than the room takes
--     Own l j e w        the edges e on w ticks lay out the job's ticks on its wheel, and are no more than the room takes
--     Peaked l j r       r has the worst count and offset (rule 6) and the least margin
--     Decided l j b      b says whether the job is firm (rule 7)
--     job_supply l j x   the supply from half tick x on, in half ticks (rule 2)
--     job_margin l j x   supply minus need of a strip at half tick x, in half ticks (rule 3)
--     job_count l j x    how many of the k strips from half tick x on are dropped (rule 4)
use Rattle.std.specs.Prelude.{◌≡◌, ◌↔◌, Bool, true, List, ℕ, ◌*◌, ◌≤◌, ◌<◌, ℤ, length}
use Rattle.rules.specs.Supply.{supply, margin, count}
use Rattle.rules.specs.Worst.{Worst, Firm}
use Rattle.rules.specs.Least.{Least}
use Rattle.limits.specs.Limits.{asked}
use Rattle.records.specs.Jobs.{job_ticks}
use Rattle.records.specs.declared.Job.{Job}
use Rattle.runs.specs.Runs.{Laid}
use Rattle.room.specs.Room.{most_edges}
use Rattle.room.specs.declared.Peak.{Peak}

pub record Holds (j : Job) (runs : List ℕ) : Type 0 where
  pub room : 2 * j.count ≤ length runs
  pub one : 0 < length runs
  pub most : length runs ≤ most_edges

pub record Own (l : List ℕ) (j : Job) (e : List ℕ) (w : ℕ) : Type 0 where
  pub laid : Laid e w (job_ticks l j)
  pub wheel : w ≡ j.wheel.w
  pub few : length e ≤ most_edges

abbrev pub Peaked : List ℕ → Job → Peak → Type 0
Peaked l j r =
    Worst j.wheel.w (job_ticks l j) (asked j.task) r.drops r.offset
    × Least j.wheel.w (job_ticks l j) (asked j.task) r.margin

abbrev pub Decided : List ℕ → Job → Bool → Type 0
Decided l j b = (b ≡ true) ↔ Firm (job_ticks l j) (asked j.task)

abbrev pub job_supply : List ℕ → Job → ℕ → ℕ
job_supply l j x = supply 2 (job_ticks l j) j.task.d x

abbrev pub job_margin : List ℕ → Job → ℕ → ℤ
job_margin l j x = margin 2 (job_ticks l j) (asked j.task) x

abbrev pub job_count : List ℕ → Job → ℕ → ℕ
job_count l j x = count 2 (job_ticks l j) (asked j.task) x
