-- The laws of specs/Laws.antt: what the question says of the other calls. Assumes nothing.
--
-- Every call gives s otherwise (b otherwise t): the sizes' number, the board's, and numbers that the question doesn't know.
use mathlib.Core.Path.{◌≡◌, refl, sym, ap, ◌∙◌}
use mathlib.Core.Logic.{◌⊎◌, inl, inr}
use mathlib.Core.Bool.{true, false}
use mathlib.Core.List.{List}
use Prim.Native.Nat.{ℕ, zero, suc}
use native.Mathlib.Omega.{arith}
use Rattle.limits.specs.Refusal.{◌otherwise◌}
use Rattle.limits.specs.Limits.{task_refusal}
use Rattle.limits.proofs.Refusals.{when-all, otherwise-all, both-none, clash}
use Rattle.records.specs.Records.{task_record}
use Rattle.records.specs.Refusals.{sizes, room, beyond, board_refusal, body_refusal, judge_refusal, point_refusal, which_refusal}
use Rattle.records.specs.Troubles.{about_slot}
use Rattle.records.proofs.Numbers.{board-all, task-all}
use Rattle.which.specs.Laws.{known, GoodTable, SameNumber}

Other : ℕ → Type 0
Other n = known n ≡ false

Ours : ℕ → Type 0
Ours n = (n ≡ 0) ⊎ (known n ≡ true)

-- ---- numbers in a row: s from the sizes, r from the reply, b from the board, t from the rest

same : (s r b t : ℕ) → Other r → Other t → known (s otherwise r otherwise b otherwise t) ≡ true
    → (s otherwise b) ≡ (s otherwise r otherwise b otherwise t)
unfolding ◌otherwise◌ Other
same zero zero zero t short other given = clash given other
same zero zero (suc b) t short other given = refl
same zero (suc r) b t short other given = clash given short
same (suc s) r b t short other given = refl

none : (s b t : ℕ) → Ours s → Ours b → Other (s otherwise b otherwise t) → (s otherwise b) ≡ 0
unfolding ◌otherwise◌ Other Ours
none zero zero t p q other = refl
none zero (suc b) t p (inl z) other = absurd (omega arith)
none zero (suc b) t p (inr given) other = clash given other
none (suc s) b t (inl z) q other = absurd (omega arith)
none (suc s) b t (inr given) q other = clash given other

regroup : (b t x : ℕ) → ((b otherwise t) otherwise x) ≡ (b otherwise t otherwise x)
unfolding ◌otherwise◌
regroup zero t x = refl
regroup (suc b) t x = refl

-- ---- whose numbers they are

zero-other : Other 0
unfolding Other known about_slot
zero-other = refl

module _ (task slots : List ℕ) where
  abbrev s : ℕ
  s = sizes task slots

  abbrev b : ℕ
  b = board_refusal (task_record task) slots

  abbrev t : ℕ
  t = let r = task_record task in task_refusal r.e r.d r.h r.m r.k

  ours-sizes : Ours s
  unfolding sizes Ours known about_slot
  ours-sizes = when-all Ours 1 _ (inl refl) (inr refl)

  ours-board : Ours b
  unfolding Ours known about_slot
  ours-board =
      board-all Ours (inl refl) (inr refl) (inr refl) (inr refl) (inr refl) (inr refl) (inr refl) (inr refl) (inr refl) (task_record task) slots

  other-task : Other t
  unfolding Other known about_slot
  other-task = task-all Other refl refl refl refl refl refl _ _ _ _ _

  other-room : (reply : List ℕ) → Other (room reply)
  unfolding room Other known about_slot
  other-room reply = when-all Other 2 _ refl refl

  other-rest : (x : ℕ) → Other (t otherwise beyond (task_record task).w x)
  unfolding beyond Other known about_slot
  other-rest x = otherwise-all Other _ _ other-task (when-all Other 11 _ refl refl)

  -- ---- the calls in these parts

  judged : (reply : List ℕ) → judge_refusal task slots reply ≡ (s otherwise room reply otherwise b otherwise t)
  unfolding judge_refusal body_refusal
  judged reply = refl

  pointed : (x : ℕ) → point_refusal task slots x ≡ (s otherwise b otherwise t otherwise beyond (task_record task).w x)
  unfolding point_refusal body_refusal
  pointed x = ap (λ n. s otherwise n) (regroup b t (beyond (task_record task).w x))

  same-judge :
      (reply : List ℕ) → known (judge_refusal task slots reply) ≡ true → which_refusal task slots ≡ judge_refusal task slots reply
  unfolding which_refusal
  same-judge reply given = same s (room reply) b t (other-room reply) other-task (ap known (sym (judged reply)) ∙ given) ∙ sym (judged reply)

  same_point : (x : ℕ) → known (point_refusal task slots x) ≡ true → which_refusal task slots ≡ point_refusal task slots x
  unfolding which_refusal ◌otherwise◌
  same_point x given = same s 0 b _ zero-other (other-rest x) (ap known (sym (pointed x)) ∙ given) ∙ sym (pointed x)

  module _ (good : which_refusal task slots ≡ 0) where
    parts : (s ≡ 0) × (b ≡ 0)
    unfolding which_refusal
    parts = both-none _ _ good

    none-judge : (reply : List ℕ) → known (judge_refusal task slots reply) ≡ false
    unfolding Other
    none-judge reply =
        ap known (judged reply)
        ∙ otherwise-all Other _ _ (rw parts.0 zero-other)
        (otherwise-all Other _ _ (other-room reply) (otherwise-all Other _ _ (rw parts.1 zero-other) other-task))

    none-point : (x : ℕ) → known (point_refusal task slots x) ≡ false
    unfolding Other
    none-point x =
        ap known (pointed x)
        ∙ otherwise-all Other _ _ (rw parts.0 zero-other) (otherwise-all Other _ _ (rw parts.1 zero-other) (other-rest x))

  good-point : ((x : ℕ) → known (point_refusal task slots x) ≡ false) → which_refusal task slots ≡ 0
  unfolding which_refusal Other
  good-point other = none s b _ ours-sizes ours-board (ap known (sym (pointed 0)) ∙ other 0)

pub good-table : GoodTable
good-table task slots = (λ good. (none-judge task slots good, none-point task slots good), λ other. good-point task slots other.1)

pub same_number : SameNumber
same_number task slots = (same-judge task slots, same_point task slots)
