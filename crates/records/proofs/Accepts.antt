-- What the refusals rule out: a record with none is a good job, and every refusal of its body is 3 or more. Assumes nothing.
use mathlib.Core.Path.{◌≡◌, refl}
use mathlib.Core.List.{List}
use Prim.Native.Nat.{ℕ, ◌<◌}
use native.Mathlib.Nat.{zero-lt-suc}
use borrow.Author.Tests.{ltb-false}
use Rattle.limits.proofs.Refusals.{both-none, when-none}
use Rattle.limits.proofs.Made.{wheel-within, task-within}
use Rattle.records.specs.Refusals.{range, table_refusal, slots_refusal, board_refusal, body_refusal, job_of}
use Rattle.records.specs.Jobs.{Good}
use Rattle.records.specs.declared.TaskRecord.{TaskRecord}
use Rattle.records.specs.declared.Job.{Job}
use Rattle.records.proofs.Numbers.{body-all}

pub good-job : (r : TaskRecord) (l : List ℕ) → body_refusal r l ≡ 0 → Good l (job_of r)
unfolding body_refusal board_refusal range slots_refusal table_refusal
good-job r l e =
    let parts = both-none _ _ e in
    let far = both-none _ _ parts.0 in
    let high = both-none _ _ far.1 in
    let wheel = both-none _ _ high.1 in
    let slots = both-none _ _ wheel.1 in
    let ticks = wheel-within r.w wheel.0 in
    record {
      part = ltb-false _ _ (when-none 3 _ (zero-lt-suc 2) far.0);
      table = slots.1;
      some = ticks.0;
      most = ticks.1;
      slots = ltb-false _ _ (when-none 14 _ (zero-lt-suc 13) slots.0);
      within = task-within _ _ _ _ _ parts.1;
    }

-- The same of the job that a check answers.
pub good-checked : (r : TaskRecord) (l : List ℕ) (j : Job) → (body_refusal r l ≡ 0) × (j ≡ job_of r) → Good l j
good-checked r l j (none, same) = rw same (good-job r l none)

-- The body's refusals are 3 or more.
pub body-high : (r : TaskRecord) (l : List ℕ) (n : ℕ) → n ≡ body_refusal r l → (n ≡ 0 → ⊥) → 2 < n
body-high r l n e = rw e (body-all (λ x. (x ≡ 0 → ⊥) → 2 < x) (λ bad. absurd (bad refl)) (λ x low high bad. low) r l)
