-- The gate of the questions at a half tick, and what stands behind it. Assumes nothing.
use mathlib.Core.Path.{◌≡◌}
use mathlib.Core.List.{List}
use Prim.Native.Nat.{ℕ, ◌*◌, ◌<◌}
use native.Mathlib.Nat.{zero-lt-suc}
use borrow.Author.Tests.{leb-false}
use lib.IntN.{ℤ, pos}
use Rattle.std.specs.Prelude.{Result}
use Rattle.limits.specs.Refusal.{Checks, refusal, given}
use Rattle.limits.specs.declared.Refusal.{Refusal}
use Rattle.limits.proofs.Refusals.{when-none, both-none}
use Rattle.limits.proofs.Checks.{checks-refusal, checks-given}
use Rattle.records.specs.Records.{task_record, board_of, ticks_of}
use Rattle.records.specs.Refusals.{beyond, point_refusal, job_of}
use Rattle.records.specs.declared.Job.{Job}
use Rattle.records.specs.Jobs.{Good}
use Rattle.records.proofs.Accepts.{good-job}
use Rattle.jobs.specs.Lent.{job_supply, job_margin, job_count}
use Rattle.judge.specs.Points.{supplied_at, margin_at, counted_at}

module _ (task slots : List ℕ) (x : ℕ) where
  pub open-inside : point_refusal task slots x ≡ 0 → Good slots (job_of (task_record task)) × (x < 2 * (task_record task).w)
  unfolding point_refusal beyond
  open-inside p =
      let a = both-none _ _ p in
      let q = both-none _ _ a.1 in (
        good-job (task_record task) slots q.0,
        leb-false _ _ (when-none 11 _ (zero-lt-suc 10) q.1),
      )

  -- A job that was let in can be asked.
  pub enter-asked : (j : Job) → point_refusal task slots x ≡ 0 → j ≡ job_of (task_record task) → x < 2 * j.wheel.w
  enter-asked j none same = rw same (open-inside none).1

  -- What the gate's job answers, or its refusal, is the reply.
  pub supplied : (r : Result ℕ Refusal) → Checks (point_refusal task slots x) (job_supply slots (job_of (task_record task)) x) r
      → (refusal r ≡ point_refusal task slots x) × (given 0 r ≡ supplied_at task slots x)
  unfolding supplied_at ticks_of board_of
  supplied r c = (checks-refusal _ _ r c, checks-given _ _ 0 r c)

  pub measured : (r : Result ℤ Refusal) → Checks (point_refusal task slots x) (job_margin slots (job_of (task_record task)) x) r
      → (refusal r ≡ point_refusal task slots x) × (given (pos 0) r ≡ margin_at task slots x)
  unfolding margin_at ticks_of board_of
  measured r c = (checks-refusal _ _ r c, checks-given _ _ (pos 0) r c)

  pub counted : (r : Result ℕ Refusal) → Checks (point_refusal task slots x) (job_count slots (job_of (task_record task)) x) r
      → (refusal r ≡ point_refusal task slots x) × (given 0 r ≡ counted_at task slots x)
  unfolding counted_at ticks_of board_of
  counted r c = (checks-refusal _ _ r c, checks-given _ _ 0 r c)
