-- What a check answers, as a Result: laws of `number` and `Checks`. Assumes nothing.
use mathlib.Core.Path.{◌≡◌, refl, sym, ap, ◌∙◌}
use mathlib.Core.Bool.{Bool, true, false, cond}
use Prim.Native.Nat.{ℕ, ◌*◌, ◌^◌, ◌<◌}
use native.Mathlib.Nat.{zero-lt-suc}
use native.Mathlib.Omega.{arith}
use lib.Dec.{ltb, eqb}
use borrow.Author.Tests.{ltb-true, ltb-false}
use Rattle.std.specs.Prelude.{Result, Ok, Err, is_ok}
use Rattle.limits.specs.Refusal.{◌when◌, ◌otherwise◌, if_none, number, Checks, refusal, given}
use Rattle.limits.specs.Limits.{outside, grid_refusal, most_granted, most_ticks}
use Rattle.limits.specs.declared.Refusal.{Refusal}
use Rattle.limits.specs.declared.Refusal.TheVariants as refusals
use Rattle.limits.proofs.Refusals.{clash, at_first, at_next, none_left, none_right, when-none, grid-number, grid-length, grid-loss, grid-product, grid-fits}

-- No refusal has the number 0.
pub number-some : (r : Refusal) → number r ≡ 0 → ⊥
number-some refusals.Sizes e = omega arith
number-some refusals.Reply e = omega arith
number-some refusals.Range e = omega arith
number-some refusals.Wheel e = omega arith
number-some refusals.Need e = omega arith
number-some refusals.Period e = omega arith
number-some refusals.Deadline e = omega arith
number-some refusals.Strips e = omega arith
number-some refusals.Painted e = omega arith
number-some refusals.Offset e = omega arith
number-some refusals.Grid e = omega arith
number-some refusals.Loose e = omega arith
number-some refusals.Slots e = omega arith
number-some refusals.Empty e = omega arith
number-some refusals.Past e = omega arith
number-some refusals.Early e = omega arith
number-some refusals.Loss e = omega arith
number-some refusals.Owner e = omega arith

-- Two refusals with one number are the same: one is read back from its number.
of_number : ℕ → Refusal
of_number n =
    cond (eqb n 1) refusals.Sizes
    (cond (eqb n 2) refusals.Reply
    (cond (eqb n 3) refusals.Range
    (cond (eqb n 4) refusals.Wheel
    (cond (eqb n 6) refusals.Need
    (cond (eqb n 7) refusals.Period
    (cond (eqb n 8) refusals.Deadline
    (cond (eqb n 9) refusals.Strips
    (cond (eqb n 10) refusals.Painted
    (cond (eqb n 11) refusals.Offset
    (cond (eqb n 12) refusals.Grid
    (cond (eqb n 13) refusals.Loose
    (cond (eqb n 14) refusals.Slots
    (cond (eqb n 15) refusals.Empty
    (cond (eqb n 16) refusals.Past
    (cond (eqb n 17) refusals.Early
    (cond (eqb n 18) refusals.Loss refusals.Owner))))))))))))))))

of_number-number : (r : Refusal) → of_number (number r) ≡ r
unfolding of_number
of_number-number refusals.Sizes = refl
of_number-number refusals.Reply = refl
of_number-number refusals.Range = refl
of_number-number refusals.Wheel = refl
of_number-number refusals.Need = refl
of_number-number refusals.Period = refl
of_number-number refusals.Deadline = refl
of_number-number refusals.Strips = refl
of_number-number refusals.Painted = refl
of_number-number refusals.Offset = refl
of_number-number refusals.Grid = refl
of_number-number refusals.Loose = refl
of_number-number refusals.Slots = refl
of_number-number refusals.Empty = refl
of_number-number refusals.Past = refl
of_number-number refusals.Early = refl
of_number-number refusals.Loss = refl
of_number-number refusals.Owner = refl

pub number-injective : (r s : Refusal) → number r ≡ number s → r ≡ s
number-injective r s e = sym (of_number-number r) ∙ ap of_number e ∙ of_number-number s

-- ---- what Checks says of an answer

module _ {A : Type 0} (n : ℕ) (a : A) where
  pub checks-refusal : (x : Result A Refusal) → Checks n a x → refusal x ≡ n
  checks-refusal (Ok x) c = sym c.0
  checks-refusal (Err r) c = c

  pub checks-given : (d : A) (x : Result A Refusal) → Checks n a x → given d x ≡ if_none n a d
  checks-given d (Ok x) c = c.1 ∙ sym (none_left n a d c.0)
  checks-given d (Err r) c = sym (none_right n a d (λ z. number-some r (c ∙ z)))

-- An answer to one number is one to a number that equals it.
pub checks_as : {A : Type 0} {n m : ℕ} (a : A) (x : Result A Refusal) → Checks n a x → n ≡ m → Checks m a x
checks_as a x c e = rw (sym e) c

-- A check that accepts has the number 0.
pub none_ok : {A : Type 0} {n : ℕ} (a : A) (x : Result A Refusal) → Checks n a x → is_ok x ≡ true → n ≡ 0
none_ok a (Ok x) c e = c.0
none_ok a (Err r) c e = clash e refl

-- A check that refuses has passed its test.
pub when-given : (r : Refusal) (n : ℕ) (b : Bool) → number r ≡ (n when b) → (b ≡ true) × (number r ≡ n)
unfolding ◌when◌
when-given r n true e = (refl, e)
when-given r n false e = absurd (number-some r e)

-- ---- the parts of a row of checks, as `?` goes along it

pub err_first : (r : Refusal) (n m : ℕ) → number r ≡ n → number r ≡ (n otherwise m)
err_first r n m e = at_first n m _ e (number-some r)

pub err_next : (r : Refusal) (n m : ℕ) → n ≡ 0 → number r ≡ m → number r ≡ (n otherwise m)
err_next r n m z e = at_next n m _ z e

pub none_next : (n m : ℕ) → n ≡ 0 → m ≡ 0 → (n otherwise m) ≡ 0
none_next n m z e = sym (at_next n m 0 z (sym e))

pub ruleset row = (err_first, err_next, none_next)

-- ---- a grant's wheel, whose parts have one number

module _ (N v loss : ℕ) where
  pub err_number : (r : Refusal) → number r ≡ (12 when outside N most_granted) → number r ≡ grid_refusal N v loss
  err_number r e = let g = when-given r 12 _ e in g.1 ∙ grid-number N v loss g.0

  module _ (few : (12 when outside N most_granted) ≡ 0) where
    some : outside N most_granted ≡ false
    some = when-none 12 _ (zero-lt-suc 11) few

    pub err_length : (r : Refusal) → number r ≡ (12 when outside v most_ticks) → number r ≡ grid_refusal N v loss
    err_length r e = let g = when-given r 12 _ e in g.1 ∙ grid-length N v loss some g.0

    pub err_loss : (r : Refusal) → number r ≡ (12 when ltb v loss) → number r ≡ grid_refusal N v loss
    err_loss r e = let g = when-given r 12 _ e in g.1 ∙ grid-loss N v loss (ltb-true v loss g.0)

    module _ (long : (12 when outside v most_ticks) ≡ 0) where
      ticks : outside v most_ticks ≡ false
      ticks = when-none 12 _ (zero-lt-suc 11) long

      pub fits_product : N * v < 2 ^ 64
      fits_product = grid-fits N v some ticks

      pub only_product : (12 when ltb v loss) ≡ 0 → (12 when ltb most_ticks (N * v)) ≡ grid_refusal N v loss
      only_product short = grid-product N v loss some ticks (ltb-false v loss (when-none 12 _ (zero-lt-suc 11) short))

pub ruleset grid_row = (err_number, err_length, err_loss, fits_product, only_product)
