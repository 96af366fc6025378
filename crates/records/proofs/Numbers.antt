-- Which numbers a record's refusals are: what holds of 0 and of each of them holds of the one that is given. Assumes nothing.
use mathlib.Core.Path.{◌≡◌, refl}
use mathlib.Core.Bool.{true}
use mathlib.Core.List.{List}
use Prim.Native.Nat.{ℕ, zero, suc, ◌≤◌, ◌<◌}
use lib.Dec.{lit<, lit≤}
use Rattle.limits.specs.Limits.{id_refusal, wheel_refusal, task_refusal}
use Rattle.limits.proofs.Refusals.{when-all, otherwise-all}
use Rattle.records.specs.Refusals.{range, slot_refusal, first_bad, table_refusal, slots_refusal, board_refusal, body_refusal}
use Rattle.records.specs.Troubles.{about_slot}
use Rattle.records.specs.declared.TaskRecord.{TaskRecord}
use Rattle.records.specs.declared.Slot.{Slot}

module _ (P : ℕ → Type 0) (none : P 0) where
  slots-all : P 15 → P 16 → P 17 → P 18 → (w : ℕ) (slot : ℕ → Slot) (n : ℕ) → P (first_bad w slot n)
  unfolding first_bad slot_refusal
  slots-all empty past early lost w slot zero = none
  slots-all empty past early lost w slot (suc n) =
      otherwise-all P _ _ (slots-all empty past early lost w slot n)
      (otherwise-all P _ _ (when-all P 15 _ none empty)
      (otherwise-all P _ _ (when-all P 16 _ none past)
      (otherwise-all P _ _ (when-all P 17 _ none early) (when-all P 18 _ none lost))))

  pub board-all :
      P 3 → P 19 → P 4 → P 14 → P 15 → P 16 → P 17 → P 18 → (r : TaskRecord) (l : List ℕ) → P (board_refusal r l)
  unfolding board_refusal range id_refusal slots_refusal table_refusal wheel_refusal
  board-all far high wheel many empty past early lost r l =
      otherwise-all P _ _ (when-all P 3 _ none far)
      (otherwise-all P _ _ (when-all P 19 _ none high)
      (otherwise-all P _ _ (when-all P 4 _ none wheel)
      (otherwise-all P _ _ (when-all P 14 _ none many) (slots-all empty past early lost _ _ _))))

  pub task-all : P 6 → P 7 → P 8 → P 9 → P 10 → (e D h m k : ℕ) → P (task_refusal e D h m k)
  unfolding task_refusal
  task-all need period deadline strips painted e D h m k =
      otherwise-all P _ _ (when-all P 6 _ none need)
      (otherwise-all P _ _ (when-all P 7 _ none period)
      (otherwise-all P _ _ (when-all P 8 _ none deadline)
      (otherwise-all P _ _ (when-all P 9 _ none strips) (when-all P 10 _ none painted))))

  pub body-all : ((n : ℕ) → 2 < n → n ≤ 19 → P n) → (r : TaskRecord) (l : List ℕ) → P (body_refusal r l)
  unfolding body_refusal
  body-all some r l =
      otherwise-all P _ _
      (board-all (some 3 (lit< tt) (lit≤ tt)) (some 19 (lit< tt) (lit≤ tt)) (some 4 (lit< tt) (lit≤ tt))
      (some 14 (lit< tt) (lit≤ tt)) (some 15 (lit< tt) (lit≤ tt)) (some 16 (lit< tt) (lit≤ tt)) (some 17 (lit< tt) (lit≤ tt))
      (some 18 (lit< tt) (lit≤ tt)) r l)
      (task-all (some 6 (lit< tt) (lit≤ tt)) (some 7 (lit< tt) (lit≤ tt)) (some 8 (lit< tt) (lit≤ tt))
      (some 9 (lit< tt) (lit≤ tt)) (some 10 (lit< tt) (lit≤ tt)) _ _ _ _ _)

-- What the walk gives is about one slot.
pub slots-about : (w : ℕ) (slot : ℕ → Slot) (n : ℕ) → (first_bad w slot n ≡ 0 → ⊥) → about_slot (first_bad w slot n) ≡ true
unfolding about_slot
slots-about =
    slots-all (λ n. (n ≡ 0 → ⊥) → about_slot n ≡ true) (λ bad. absurd (bad refl)) (λ bad. refl) (λ bad. refl) (λ bad. refl) (λ bad. refl)
