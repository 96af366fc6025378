-- Each way out of the question gives what docs/RULES.md names. Assumes nothing.
use mathlib.Core.Path.{◌≡◌, refl, sym, ap, ◌∙◌}
use mathlib.Core.Logic.{◌↔◌}
use mathlib.Core.Bool.{Bool, true, false}
use mathlib.Core.List.{List}
use Prim.Native.Nat.{ℕ}
use Rattle.rules.specs.Worst.{Firm}
use Rattle.limits.specs.Refusal.{number}
use Rattle.limits.specs.Limits.{asked}
use Rattle.limits.specs.declared.Refusal.{Refusal}
use Rattle.limits.proofs.Checks.{number-some, err_first, err_next, none_next}
use Rattle.records.specs.Records.{task_record, board_of, ticks_of}
use Rattle.records.specs.Refusals.{sizes, body_refusal, job_of}
use Rattle.records.specs.Jobs.{job_ticks}
use Rattle.records.specs.declared.TaskRecord.{TaskRecord}
use Rattle.records.specs.declared.Job.{Job}
use Rattle.quick.specs.Quick.{quick_refusal, Quick}

module _ (task slots : List ℕ) where
  refused : (bad : Refusal) → number bad ≡ quick_refusal task slots → Quick task slots (number bad) false
  refused bad e = record { number = e; refused = λ _. refl; answered = λ none. absurd (number-some bad none) }

  pub quick-sizes : (bad : Refusal) → number bad ≡ sizes task slots → Quick task slots (number bad) false
  unfolding quick_refusal
  quick-sizes bad e = refused bad (err_first bad _ _ e)

  module _ (good : sizes task slots ≡ 0) (r : TaskRecord) (e : r ≡ task_record task) where
    pub quick-refused : (bad : Refusal) → number bad ≡ body_refusal r slots → Quick task slots (number bad) false
    unfolding quick_refusal
    quick-refused bad p = refused bad (err_next bad _ _ good (p ∙ ap (λ x. body_refusal x slots) e))

    pub quick-answered :
        (j : Job) (b : Bool) → (body_refusal r slots ≡ 0) × (j ≡ job_of r) → (b ≡ true) ↔ Firm (job_ticks slots j) (asked j.task)
        → Quick task slots 0 b
    unfolding quick_refusal ticks_of board_of
    quick-answered j b (none, same) says =
        record {
          number = sym (none_next _ _ good (rw e at none));
          refused = λ bad. absurd (bad refl);
          answered = λ _. rw (same, e) at says;
        }
