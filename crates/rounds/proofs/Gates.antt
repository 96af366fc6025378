-- Each way out of counting by whole rounds: the number is the first refusal that applies, and beside it the count is 0. Assumes nothing.
use mathlib.Core.Path.{◌≡◌, ap, ◌∙◌}
use mathlib.Core.List.{List}
use Prim.Native.Nat.{ℕ, ◌*◌, ◌<◌}
use native.Mathlib.Nat.{zero-lt-suc}
use borrow.Author.Tests.{leb-false}
use Rattle.std.specs.Prelude.{Result, Ok, Err}
use Rattle.limits.specs.Refusal.{Checks, number, refusal, given}
use Rattle.limits.specs.declared.Refusal.{Refusal}
use Rattle.limits.proofs.Refusals.{when-none}
use Rattle.limits.proofs.Checks.{checks-refusal, checks-given, err_first, err_next, none_next}
use Rattle.records.specs.Records.{task_record, board_of, ticks_of}
use Rattle.records.specs.Refusals.{sizes, beyond, job_of}
use Rattle.records.specs.declared.TaskRecord.{TaskRecord}
use Rattle.records.specs.declared.Job.{Job}
use Rattle.jobs.specs.Lent.{job_count}
use Rattle.rounds.specs.Rounds.{rounds_body, rounds_point_refusal, rounds_counted_at}
use Rattle.rounds.specs.Long.{Ready}
use Rattle.rounds.proofs.Bodies.{ready-checked}

-- A job that was let in can be asked.
pub count-asked :
    (r : TaskRecord) (l : List ℕ) (x : ℕ) (j : Job) → (rounds_body r l ≡ 0) × (j ≡ job_of r) → beyond j.wheel.w x ≡ 0
    → Ready l j × (x < 2 * j.wheel.w)
unfolding beyond
count-asked r l x j ok near = (ready-checked r l j ok, leb-false _ _ (when-none 11 _ (zero-lt-suc 10) near))

module _ (task slots : List ℕ) (x : ℕ) where
  -- What an accepted job answers, or the refusal, is the reply.
  reply :
      (r : Result ℕ Refusal) → Checks (rounds_point_refusal task slots x) (job_count slots (job_of (task_record task)) x) r
      → (refusal r ≡ rounds_point_refusal task slots x) × (given 0 r ≡ rounds_counted_at task slots x)
  unfolding rounds_counted_at ticks_of board_of
  reply r c = (checks-refusal _ _ r c, checks-given _ _ 0 r c)

  -- The number n with the count c is what the call is to give.
  abbrev pub Counts : ℕ → ℕ → Type 0
  Counts n c = (n ≡ rounds_point_refusal task slots x) × (c ≡ rounds_counted_at task slots x)

  pub count-sizes : (bad : Refusal) → number bad ≡ sizes task slots → Counts (number bad) 0
  unfolding rounds_point_refusal
  count-sizes bad e = reply (Err bad) (err_first bad _ _ e)

  module _ (good : sizes task slots ≡ 0) (r : TaskRecord) (e : r ≡ task_record task) where
    pub count-body : (bad : Refusal) → number bad ≡ rounds_body r slots → Counts (number bad) 0
    unfolding rounds_point_refusal
    count-body bad p = reply (Err bad) (err_next bad _ _ good (err_first bad _ _ (p ∙ ap (λ y. rounds_body y slots) e)))

    module _ (j : Job) (ok : (rounds_body r slots ≡ 0) × (j ≡ job_of r)) where
      none : rounds_body (task_record task) slots ≡ 0
      none = rw e at ok.0

      ours : j ≡ job_of (task_record task)
      ours = ok.1 ∙ ap job_of e

      pub count-beyond : (bad : Refusal) → number bad ≡ beyond j.wheel.w x → Counts (number bad) 0
      unfolding rounds_point_refusal
      count-beyond bad p = reply (Err bad) (err_next bad _ _ good (err_next bad _ _ none (rw ours at p)))

      pub counted : beyond j.wheel.w x ≡ 0 → (c : ℕ) → c ≡ job_count slots j x → Counts 0 c
      unfolding rounds_point_refusal
      counted near c found =
          reply (Ok c) (none_next _ _ good (none_next _ _ none (rw ours at near)), found ∙ ap (λ y. job_count slots y x) ours)
