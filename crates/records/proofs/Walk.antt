-- The walk over a table's slots: the first bad one gives the number and the place. Assumes nothing.
use mathlib.Core.Path.{◌≡◌, refl, sym, ap, ◌∙◌}
use mathlib.Core.Logic.{⊎_elim}
use mathlib.Core.Bool.{Bool, false}
use mathlib.Core.List.{List}
use Prim.Native.Nat.{ℕ, zero, suc, ◌+◌, ◌-◌, ◌/◌, ◌≤◌, ◌<◌}
use native.Mathlib.Nat.{zero-lt-suc, add-zero, add-suc, le_antisymm, eq-or-lt_of_le}
use native.Mathlib.Numerals.{add-one}
use native.Mathlib.Omega.{arith}
use borrow.Author.Tests.{leb-false, ltb-false}
use lib.Dec.{leb, ltb}
use lib.ListN.{length}
use Rattle.limits.specs.Refusal.{◌when◌, number}
use Rattle.limits.specs.Limits.{most_slots, id_refusal, wheel_refusal}
use Rattle.limits.specs.declared.Refusal.{Refusal}
use Rattle.limits.specs.declared.Wheel.{Wheel}
use Rattle.limits.proofs.Refusals.{otherwise-none, otherwise-some, when-none, both-none, clash}
use Rattle.limits.proofs.Checks.{number-some, when-given, err_first, err_next, row}
use Rattle.records.specs.Records.{slot_bytes, slot_at}
use Rattle.records.specs.Refusals.{range, slot_refusal, end_before, trouble_at, first_bad, table_refusal, slots_refusal, board_refusal}
use Rattle.records.specs.Troubles.{about_slot, Placed, TroubleOf}
use Rattle.records.specs.declared.TaskRecord.{TaskRecord}
use Rattle.records.specs.declared.Slot.{Slot}
use Rattle.records.proofs.Numbers.{slots-about}

-- What one slot's checks are told: a slot that isn't empty has a length.
pub some_long : (a b : ℕ) → (15 when leb a b) ≡ 0 → b < a
some_long a b e = leb-false a b (when-none 15 _ (zero-lt-suc 14) e)

pub ruleset slot_row = (row, some_long)

-- ---- the place beside a number

-- A number that is about no single slot comes with place 0.
pub placed-nowhere : {f : ℕ → ℕ} {n x : ℕ} (y : ℕ) → y ≡ x → about_slot y ≡ false → Placed x f n y 0
placed-nowhere y p other =
    record { number = p; slot = λ about. clash (ap about_slot p ∙ about) other; none = λ _. refl }

pub placed-as : {f : ℕ → ℕ} {n x y t p : ℕ} → Placed y f n t p → y ≡ x → Placed x f n t p
placed-as p e = rw (sym e) p

-- ---- the walk

-- The first i slots are good, and the last of them ends at b.
pub record Passed (w : ℕ) (slot : ℕ → Slot) (n b i : ℕ) : Type 0 where
  pub upto : i ≤ n
  pub none : first_bad w slot i ≡ 0
  pub each : (j : ℕ) → j < i → trouble_at w slot j ≡ 0
  pub before : b ≡ end_before slot i

pub passed_none : (w : ℕ) (slot : ℕ → Slot) (n : ℕ) → Passed w slot n 0 0
unfolding first_bad end_before
passed_none w slot n = record { upto = omega arith; none = refl; each = λ j l. absurd (omega arith); before = refl }

next-bad : (w : ℕ) (slot : ℕ → Slot) (n b i : ℕ) → Passed w slot n b i → first_bad w slot (i + 1) ≡ slot_refusal w b (slot i)
unfolding first_bad
next-bad w slot n b i p =
    rw add-one (otherwise-none _ _ p.none ∙ ap (λ x. slot_refusal w x (slot i)) (sym p.before))

pub passed_more :
    (w : ℕ) (slot : ℕ → Slot) (n b i : ℕ) (s : Slot) → Passed w slot n b i → i < n → s ≡ slot i → slot_refusal w b s ≡ 0
    → Passed w slot n s.end (i + 1)
unfolding end_before
passed_more w slot n b i s p l same e =
    record {
      upto = omega arith;
      none = next-bad w slot n b i p ∙ good;
      each = λ j m. ⊎_elim (λ (q : j ≡ i). ap (trouble_at w slot) q ∙ here) (p.each j) (eq-or-lt_of_le (omega arith));
      before = ap (λ (t : Slot). t.end) same ∙ ap (end_before slot) (sym (add-one i));
    }
  where
    good : slot_refusal w b (slot i) ≡ 0
    good = ap (slot_refusal w b) (sym same) ∙ e

    here : trouble_at w slot i ≡ 0
    here = ap (λ x. slot_refusal w x (slot i)) (sym p.before) ∙ good

-- Behind a bad slot the number stays.
bad-stays : (w : ℕ) (slot : ℕ → Slot) (i x m : ℕ) → first_bad w slot i ≡ x → (x ≡ 0 → ⊥) → first_bad w slot (i + m) ≡ x
unfolding first_bad
bad-stays w slot i x zero e n = rw add-zero e
bad-stays w slot i x (suc m) e n =
    let h = bad-stays w slot i x m e n in
    rw add-suc (otherwise-some _ _ (λ z. n (sym h ∙ z)) ∙ h)

pub passed_bad :
    (w : ℕ) (slot : ℕ → Slot) (n b i : ℕ) (s : Slot) (e : Refusal) → Passed w slot n b i → i < n → s ≡ slot i
    → number e ≡ slot_refusal w b s → Placed (first_bad w slot n) (trouble_at w slot) n (number e) i
passed_bad w slot n b i s r p l same e =
    record {
      number = given;
      slot = λ m. record { inside = l; here = ap (λ y. slot_refusal w y (slot i)) (sym p.before) ∙ sym at ∙ given; before = p.each };
      none = λ m. clash (slots-about w slot n (λ z. bad (given ∙ z))) m;
    }
  where
    bad : number r ≡ 0 → ⊥
    bad = number-some r

    at : number r ≡ slot_refusal w b (slot i)
    at = e ∙ ap (slot_refusal w b) same

    given : number r ≡ first_bad w slot n
    given =
        let split : i + 1 + (n - (i + 1)) ≡ n = omega arith in
        sym (bad-stays w slot (i + 1) (number r) (n - (i + 1)) (next-bad w slot n b i p ∙ sym at) bad) ∙ ap (first_bad w slot) split

pub passed_all : (w : ℕ) (slot : ℕ → Slot) (n b i : ℕ) {f : ℕ → ℕ} → Passed w slot n b i → n ≤ i → Placed (first_bad w slot n) f n 0 0
unfolding about_slot
passed_all w slot n b i p l = placed-nowhere 0 (sym p.none ∙ ap (first_bad w slot) (le_antisymm p.upto l)) refl

pub ruleset walk = (passed_bad)

-- ---- the checks before the walk, as `?` goes along them

-- A check whose numbers are about no single slot.
module _ {f : ℕ → ℕ} {n x : ℕ} (e : Refusal) (test : ℕ) (other : about_slot test ≡ false) (b : Bool) (e-is : number e ≡ (test when b)) where
  nowhere : number e ≡ x → Placed x f n (number e) 0
  nowhere p = placed-nowhere (number e) p (ap about_slot (when-given e test b e-is).1 ∙ other)

module _ (w : ℕ) (slot : ℕ → Slot) (n : ℕ) where
  pub err_many : (e : Refusal) → number e ≡ (14 when ltb most_slots n) → Placed (table_refusal w slot n) (trouble_at w slot) n (number e) 0
  unfolding table_refusal about_slot
  err_many e p = nowhere e 14 refl _ p (err_first e _ _ p)

  pub few_slots : (14 when ltb most_slots n) ≡ 0 → n ≤ most_slots
  few_slots p = ltb-false most_slots n (when-none 14 _ (zero-lt-suc 13) p)

  pub table_walk : {t p : ℕ} → (14 when ltb most_slots n) ≡ 0 → Placed (first_bad w slot n) (trouble_at w slot) n t p
      → Placed (table_refusal w slot n) (trouble_at w slot) n t p
  unfolding table_refusal
  table_walk few placed = placed-as placed (sym (otherwise-none _ _ few))

pub ruleset table_row = (err_many, few_slots)

abbrev far_of : TaskRecord → List ℕ → ℕ
far_of r l = 3 when ltb (length l / slot_bytes) (r.first + r.count)

module _ (r : TaskRecord) (l : List ℕ) where
  pub err_far : (e : Refusal) → number e ≡ far_of r l → TroubleOf r l (board_refusal r l) (number e) 0
  unfolding board_refusal range about_slot
  err_far e p = nowhere e 3 refl _ p (err_first e _ _ p)

  module _ (near : far_of r l ≡ 0) where
    pub err_high : (e : Refusal) → number e ≡ id_refusal r.id → TroubleOf r l (board_refusal r l) (number e) 0
    unfolding board_refusal range id_refusal about_slot
    err_high e p = nowhere e 19 refl _ p (err_next e _ _ near (err_first e _ _ p))

    module _ (low : id_refusal r.id ≡ 0) where
      pub err_wheel : (e : Refusal) → number e ≡ wheel_refusal r.w → TroubleOf r l (board_refusal r l) (number e) 0
      unfolding board_refusal range wheel_refusal about_slot
      err_wheel e p = nowhere e 4 refl _ p (err_next e _ _ near (err_next e _ _ low (err_first e _ _ p)))

      pub board_table :
          (x : Wheel) {t p : ℕ} → (wheel_refusal r.w ≡ 0) × (x ≡ record { w = r.w })
          → Placed (table_refusal x.w (slot_at l r.first) r.count) (trouble_at x.w (slot_at l r.first)) r.count t p
          → TroubleOf r l (board_refusal r l) t p
      unfolding board_refusal range slots_refusal
      board_table x (good, same) placed =
          placed-as (rw same at placed) (sym (otherwise-none _ _ near ∙ otherwise-none _ _ low ∙ otherwise-none _ _ good))

pub near_enough : (r : TaskRecord) (l : List ℕ) → far_of r l ≡ 0 → r.first + r.count ≤ length l / slot_bytes
near_enough r l near = ltb-false _ _ (when-none 3 _ (zero-lt-suc 2) near)

pub ruleset board_row = (err_far, near_enough, err_high, err_wheel)

-- A board with no trouble has a good wheel.
pub board_wheel : (r : TaskRecord) (l : List ℕ) → board_refusal r l ≡ 0 → wheel_refusal r.w ≡ board_refusal r l
unfolding board_refusal
board_wheel r l none = (both-none _ _ (both-none _ _ (both-none _ _ none).1).1).0 ∙ sym none
