-- docs/RULES.md, "Just yes or no": what is returned, for every byte string. Definitions only.
--
--     quick_refusal t l   as the question checks them: 1, then all of a task record on a slot buffer
--     Quick t l n b       a whole call: task t, slots l, refusal number n, and b for firm
use Rattle.std.specs.Prelude.{◌≡◌, ◌↔◌, Bool, true, false, List, ℕ}
use Rattle.rules.specs.Worst.{Firm}
use Rattle.limits.specs.Refusal.{◌otherwise◌}
use Rattle.records.specs.Records.{task_record, ticks_of, asked_of}
use Rattle.records.specs.Refusals.{sizes, body_refusal}

unfoldable pub quick_refusal : List ℕ → List ℕ → ℕ
quick_refusal task slots = sizes task slots otherwise body_refusal (task_record task) slots

-- Firm is said exactly when no fraction drops more than k − m, and never beside a refusal.
pub record Quick (task slots : List ℕ) (n : ℕ) (b : Bool) : Type 0 where
  pub number : n ≡ quick_refusal task slots
  pub refused : (n ≡ 0 → ⊥) → b ≡ false
  pub answered : n ≡ 0 → (b ≡ true) ↔ Firm (ticks_of (task_record task) slots) (asked_of (task_record task))
