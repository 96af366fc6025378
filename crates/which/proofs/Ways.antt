-- Each way out of the question: the sizes, or the board. Assumes nothing.
use mathlib.Core.Path.{◌≡◌, refl, ap, ◌∙◌}
use mathlib.Core.List.{List}
use Prim.Native.Nat.{ℕ}
use Rattle.limits.specs.Refusal.{number}
use Rattle.limits.specs.declared.Refusal.{Refusal}
use Rattle.limits.proofs.Refusals.{at_next}
use Rattle.limits.proofs.Checks.{number-some, err_first}
use Rattle.records.specs.Records.{task_record}
use Rattle.records.specs.Refusals.{sizes, board_refusal, which_refusal}
use Rattle.records.specs.Troubles.{about_slot, TroubleOf}
use Rattle.records.specs.declared.TaskRecord.{TaskRecord}
use Rattle.records.proofs.Parts.{sizes-one, sizes-long}
use Rattle.records.proofs.Walk.{placed-nowhere, placed-as}
use Rattle.which.specs.Which.{Which}

module _ (task slots : List ℕ) where
  pub err_sizes : (e : Refusal) → number e ≡ sizes task slots → Which task slots (number e) 0
  unfolding which_refusal about_slot
  err_sizes e p =
      placed-nowhere (number e) (err_first e _ _ p) (ap about_slot (p ∙ sizes-one task slots (λ z. number-some e (p ∙ z))))

  pub which_board :
      (r : TaskRecord) {t p : ℕ} → r ≡ task_record task → sizes task slots ≡ 0 → TroubleOf r slots (board_refusal r slots) t p
      → Which task slots t p
  unfolding which_refusal
  which_board r e s placed = placed-as (rw e at placed) (at_next _ _ _ s refl)

pub ruleset row = (err_sizes, sizes-long)
