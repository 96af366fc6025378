-- The refusals of a task record by whole rounds: each way out of checking it, and what none of them means. Assumes nothing.
use mathlib.Core.Path.{◌≡◌, refl}
use mathlib.Core.List.{List}
use Prim.Native.Nat.{ℕ, ◌<◌}
use native.Mathlib.Omega.{arith}
use lib.Dec.{ltb}
use Rattle.limits.specs.Refusal.{◌when◌}
use Rattle.limits.specs.Limits.{most_in_rounds, outside, rounds_refusal}
use Rattle.limits.proofs.Refusals.{when-all, otherwise-all, both-none}
use Rattle.limits.proofs.Made.{rounds-within}
use Rattle.records.specs.Refusals.{job_of}
use Rattle.records.specs.declared.TaskRecord.{TaskRecord}
use Rattle.records.specs.declared.Job.{Job}
use Rattle.records.proofs.Accepts.{good-job, body-high}
use Rattle.rounds.specs.Rounds.{one_strip, rounds_body}
use Rattle.rounds.specs.Long.{Ready}

module _ (r : TaskRecord) (l : List ℕ) where
  -- ---- what none of the refusals means

  pub ready-job : rounds_body r l ≡ 0 → Ready l (job_of r)
  unfolding rounds_body
  ready-job none =
      let parts = both-none _ _ none in
      let good = good-job (one_strip r) l parts.0 in
      let strips = rounds-within _ _ parts.1 in
      record {
        good = good;
        long = record { within = good.within; some = strips.0; strips = strips.1; painted = strips.2 };
      }

  -- The same of the job that a check answers.
  pub ready-checked : (j : Job) → (rounds_body r l ≡ 0) × (j ≡ job_of r) → Ready l j
  ready-checked j (none, same) = rw same (ready-job none)

  -- The body's refusals are 3 or more.
  pub rounds-high : (n : ℕ) → n ≡ rounds_body r l → (n ≡ 0 → ⊥) → 2 < n
  unfolding rounds_body rounds_refusal
  rounds-high n e =
      let P : ℕ → Type 0 = λ x. (x ≡ 0 → ⊥) → 2 < x in
      let nine : P (9 when outside r.k most_in_rounds) = when-all P 9 _ (λ b. absurd (b refl)) (λ _. omega arith) in
      let ten : P (10 when ltb r.k r.m) = when-all P 10 _ (λ b. absurd (b refl)) (λ _. omega arith) in
      rw e (otherwise-all P _ _ (body-high (one_strip r) l _ refl) (otherwise-all P _ _ nine ten))
