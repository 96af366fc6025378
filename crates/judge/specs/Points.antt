-- docs/RULES.md, the questions at a half tick x: supply, margin and count. Definitions only.
--
--     supplied_at t l x    the supply in half ticks, 0 beside a refusal
--     margin_at t l x      supply minus need in half ticks, 0 beside a refusal
--     counted_at t l x     the drop count, 0 beside a refusal
--     Gated t l x r        r is the job of an accepted call on its slots, or its refusal
use Rattle.std.specs.Prelude.{◌≡◌, List, ℕ, ℤ, pos, Result, Ok, Err}
use Rattle.rules.specs.Supply.{supply, margin, count}
use Rattle.limits.specs.Refusal.{if_none, number}
use Rattle.records.specs.Records.{task_record, ticks_of, asked_of}
use Rattle.records.specs.Refusals.{point_refusal, job_of}
use Rattle.limits.specs.declared.Refusal.{Refusal}
use Rattle.jobs.specs.declared.accepted.Accepted.{Accepted}

unfoldable pub supplied_at : List ℕ → List ℕ → ℕ → ℕ
supplied_at task slots x =
    if_none (point_refusal task slots x) (supply 2 (ticks_of (task_record task) slots) (task_record task).d x) 0

unfoldable pub margin_at : List ℕ → List ℕ → ℕ → ℤ
margin_at task slots x =
    if_none (point_refusal task slots x) (margin 2 (ticks_of (task_record task) slots) (asked_of (task_record task)) x) (pos 0)

unfoldable pub counted_at : List ℕ → List ℕ → ℕ → ℕ
counted_at task slots x =
    if_none (point_refusal task slots x) (count 2 (ticks_of (task_record task) slots) (asked_of (task_record task)) x) 0

abbrev pub Gated : List ℕ → List ℕ → ℕ → Result Accepted Refusal → Type 0
Gated task slots x (Ok a) = (point_refusal task slots x ≡ 0) × (a.job ≡ job_of (task_record task)) × (a.slots.now ≡ slots)
Gated task slots x (Err bad) = number bad ≡ point_refusal task slots x
