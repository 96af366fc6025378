-- Laws of sums, counts and tests over the numbers below n.
--
-- Names: sum-.. of `sum`, number-.. of `number`, any-.. of `any`; -cong: equal terms, equal results; -mono: larger terms, larger results;
-- -split: a range in two parts; -const: one term throughout.
-- In order: order and parity; bits; sums; numbers; some and all; the first largest value. Not here: anything of ticks.
-- Assumes nothing.
use mathlib.Core.Path.{◌≡◌, refl, sym, ap, ◌∙◌}
use mathlib.Core.Logic.{◌⊎◌, inl, inr, ⊎_elim}
use mathlib.Core.Bool.{Bool, true, false, ◌||◌, ◌&&◌}
use Prim.Native.Nat.{ℕ, zero, suc, ◌+◌, ◌-◌, ◌*◌, ◌/◌, ◌%◌, ◌≤◌, ◌<◌, zero-le}
use native.Mathlib.Nat.{add-zero, add-suc, zero-mul, suc-mul, le_refl, le_step, not-suc-le-zero, le_of_suc-le-suc, eq-or-lt_of_le}
use native.Mathlib.Numerals.{add-one}
use native.Mathlib.Omega.{arith}
use lib.Dec.{leb}
use borrow.Author.Tests.{leb-true, leb-false}
use Rattle.rules.specs.Sums.{Subset, bit, sum, number, any, Largest}

-- ---- order and parity

pub le-or-lt : (a b : ℕ) → (a ≤ b) ⊎ (b < a)
le-or-lt a b = go (leb a b) refl
  where
    go : (t : Bool) → leb a b ≡ t → (a ≤ b) ⊎ (b < a)
    go true e = inl (leb-true a b e)
    go false e = inr (leb-false a b e)

-- What holds of every even number and of every odd one holds of all.
pub by-parity : (P : ℕ → Type 0) → ((a : ℕ) → P (2 * a)) → ((a : ℕ) → P (2 * a + 1)) → (x : ℕ) → P x
by-parity P even odd x = go (x / 2) (x % 2) (omega arith) (omega arith)
  where
    go : (a r : ℕ) → r < 2 → x ≡ 2 * a + r → P x
    go a zero s e = let q : x ≡ 2 * a = omega arith in rw q (even a)
    go a (suc zero) s e = rw e (odd a)
    go a (suc (suc r)) s e = absurd (omega arith)

-- ---- bits

pub bit_le : (b : Bool) → bit b ≤ 1
unfolding bit
bit_le true = omega arith
bit_le false = omega arith

pub bit-mono : (a b : Bool) → (a ≡ true → b ≡ true) → bit a ≤ bit b
unfolding bit
bit-mono true true h = omega arith
bit-mono true false h = let z : bit true ≡ bit false = ap bit (sym (h refl)) in omega arith
bit-mono false b h = zero-le

-- ---- sums

pub sum-cong : (f g : ℕ → ℕ) (n : ℕ) → ((i : ℕ) → i < n → f i ≡ g i) → sum f n ≡ sum g n
unfolding sum
sum-cong f g zero h = refl
sum-cong f g (suc n) h =
    let e : f n ≡ g n = h n (omega arith) in
    let s : sum f n ≡ sum g n = sum-cong f g n (λ i l. h i (omega arith)) in
    omega arith

pub sum_mono : (f g : ℕ → ℕ) (n : ℕ) → ((i : ℕ) → i < n → f i ≤ g i) → sum f n ≤ sum g n
unfolding sum
sum_mono f g zero h = zero-le
sum_mono f g (suc n) h =
    let e : f n ≤ g n = h n (omega arith) in
    let s : sum f n ≤ sum g n = sum_mono f g n (λ i l. h i (omega arith)) in
    omega arith

pub sum-split : (f : ℕ → ℕ) (a b : ℕ) → sum f (a + b) ≡ sum f a + sum (λ i. f (a + i)) b
unfolding sum
sum-split f a zero = rw add-zero (sym (add-zero _))
sum-split f a (suc b) = rw add-suc (let s = sum-split f a b in omega arith)

pub sum-const : (f : ℕ → ℕ) (c n : ℕ) → ((i : ℕ) → i < n → f i ≡ c) → sum f n ≡ n * c
unfolding sum
sum-const f c zero h = sym (zero-mul c)
sum-const f c (suc n) h =
    let e : f n ≡ c = h n (omega arith) in
    let s : sum f n ≡ n * c = sum-const f c n (λ i l. h i (omega arith)) in
    rw suc-mul (omega arith)

-- Two rows added up together.
pub sum_both : (f g : ℕ → ℕ) (n : ℕ) → sum (λ i. f i + g i) n ≡ sum f n + sum g n
unfolding sum
sum_both f g zero = refl
sum_both f g (suc n) = omega (arith, sum_both f g n)

pub sum-longer : (f : ℕ → ℕ) (a b : ℕ) → a ≤ b → sum f a ≤ sum f b
sum-longer f a b l =
    let e : b ≡ a + (b - a) = omega arith in
    rw e (rw sum-split (omega arith))

-- ---- numbers

pub number-cong : (f g : Subset) (n : ℕ) → ((i : ℕ) → i < n → f i ≡ g i) → number f n ≡ number g n
unfolding number
number-cong f g n h = sum-cong (λ i. bit (f i)) (λ i. bit (g i)) n (λ i l. ap bit (h i l))

pub number-mono : (f g : Subset) (n : ℕ) → ((i : ℕ) → i < n → f i ≡ true → g i ≡ true) → number f n ≤ number g n
unfolding number
number-mono f g n h = sum_mono (λ i. bit (f i)) (λ i. bit (g i)) n (λ i l. bit-mono (f i) (g i) (h i l))

pub number-split : (f : Subset) (a b : ℕ) → number f (a + b) ≡ number f a + number (λ i. f (a + i)) b
unfolding number
number-split f a b = sum-split (λ i. bit (f i)) a b

pub number-const : (f : Subset) (b : Bool) (n : ℕ) → ((i : ℕ) → i < n → f i ≡ b) → number f n ≡ n * bit b
unfolding number
number-const f b n h = sum-const (λ i. bit (f i)) (bit b) n (λ i l. ap bit (h i l))

pub number-longer : (f : Subset) (a b : ℕ) → a ≤ b → number f a ≤ number f b
unfolding number
number-longer f a b l = sum-longer (λ i. bit (f i)) a b l

pub number-none : (f : Subset) → number f 0 ≡ 0
unfolding number sum
number-none f = refl

pub number-le : (f : Subset) (n : ℕ) → number f n ≤ n
unfolding number sum
number-le f zero = zero-le
number-le f (suc n) = omega (arith, number-le f n, bit_le (f n))

pub number_more : (f : Subset) (n : ℕ) → number f (n + 1) ≡ number f n + bit (f n)
unfolding number sum
number_more f n = rw add-one refl

-- ---- some and all

pub or_left : (a b : Bool) → a ≡ true → (a || b) ≡ true
or_left true b h = refl
or_left false b h = let z : ◌≡◌ {A = ℕ} 0 1 = cc in absurd (omega arith)

pub or_right : (a b : Bool) → b ≡ true → (a || b) ≡ true
or_right true b h = refl
or_right false b h = h

pub or_cases : (a b : Bool) → (a || b) ≡ true → (a ≡ true) ⊎ (b ≡ true)
or_cases true b h = inl refl
or_cases false b h = inr h

pub and_left : (a b : Bool) → (a && b) ≡ true → a ≡ true
and_left true b h = refl
and_left false b h = h

pub and_right : (a b : Bool) → (a && b) ≡ true → b ≡ true
and_right true b h = h
and_right false b h = let z : ◌≡◌ {A = ℕ} 0 1 = cc in absurd (omega arith)

pub and_both : (a b : Bool) → a ≡ true → b ≡ true → (a && b) ≡ true
and_both true b p q = q
and_both false b p q = p

pub any-intro : (f : Subset) (n i : ℕ) → i < n → f i ≡ true → any f n ≡ true
unfolding any
any-intro f zero i l h = absurd (not-suc-le-zero l)
any-intro f (suc n) i l h =
    ⊎_elim
    (λ e. or_right (any f n) (f n) (rw e at h))
    (λ m. or_left (any f n) (f n) (any-intro f n i m h))
    (eq-or-lt_of_le (le_of_suc-le-suc l))

pub any_none : (f : Subset) (n : ℕ) → ((i : ℕ) → i < n → f i ≡ false) → any f n ≡ false
unfolding any
any_none f zero h = refl
any_none f (suc n) h = ap (λ b. b || f n) (any_none f n (λ i l. h i (le_step l))) ∙ h n (le_refl (suc n))

pub any-mono : (f g : Subset) (n : ℕ) → ((i : ℕ) → i < n → f i ≡ true → g i ≡ true) → any f n ≡ true → any g n ≡ true
unfolding any
any-mono f g zero h t = t
any-mono f g (suc n) h t =
    ⊎_elim
    (λ a. or_left (any g n) (g n) (any-mono f g n (λ i l. h i (omega arith)) a))
    (λ b. or_right (any g n) (g n) (h n (omega arith) b))
    (or_cases (any f n) (f n) t)

-- Some i below n passes the test, or all fail it.
pub record Found (f : Subset) (n : ℕ) : Type 0 where
  pub place : ℕ
  pub below : place < n
  pub passes : f place ≡ true

found-or-none-step :
    (f : Subset) (n : ℕ) → Found f n ⊎ ((i : ℕ) → i < n → f i ≡ false) → (b : Bool) → f n ≡ b
    → Found f (suc n) ⊎ ((i : ℕ) → i < suc n → f i ≡ false)
found-or-none-step f n (inl x) b e = inl (record { place = x.place; below = le_step x.below; passes = x.passes })
found-or-none-step f n (inr none) true e = inl (record { place = n; below = le_refl (suc n); passes = e })
found-or-none-step f n (inr none) false e =
    inr (λ i l. ⊎_elim (λ (q : i ≡ n). ap f q ∙ e) (λ m. none i m) (eq-or-lt_of_le (le_of_suc-le-suc l)))

pub found-or-none : (f : Subset) (n : ℕ) → Found f n ⊎ ((i : ℕ) → i < n → f i ≡ false)
found-or-none f zero = inr (λ i l. absurd (not-suc-le-zero l))
found-or-none f (suc n) = found-or-none-step f n (found-or-none f n) (f n) refl

-- Every i below n passes the test, computed.
abbrev pub all : Subset → ℕ → Bool
all f zero = true
all f (suc n) = all f n && f n

pub all-at : (f : Subset) (n i : ℕ) → all f n ≡ true → i < n → f i ≡ true
all-at f zero i t l = absurd (not-suc-le-zero l)
all-at f (suc n) i t l =
    ⊎_elim
    (λ (e : i ≡ n). ap f e ∙ and_right (all f n) (f n) t)
    (λ m. all-at f n i (and_left (all f n) (f n) t) m)
    (eq-or-lt_of_le (le_of_suc-le-suc l))

pub all-intro : (f : Subset) (n : ℕ) → ((i : ℕ) → i < n → f i ≡ true) → all f n ≡ true
all-intro f zero h = refl
all-intro f (suc n) h = and_both (all f n) (f n) (all-intro f n (λ i l. h i (le_step l))) (h n (le_refl (suc n)))

-- ---- the first largest value

pub largest-same : {f g : ℕ → ℕ} {n c a : ℕ} → ((i : ℕ) → i < n → f i ≡ g i) → Largest f n c a → Largest g n c a
largest-same same top =
    record {
      bound = λ i s. rw (same i s) at (top.bound i s);
      inside = top.inside;
      hit = sym (same _ top.inside) ∙ top.hit;
      least = λ i s. rw (same i (omega (arith, top.inside))) at (top.least i s);
    }

-- Of n + 1 numbers there always is one.
pub record Best (f : ℕ → ℕ) (n : ℕ) : Type 0 where
  pub value : ℕ
  pub place : ℕ
  pub largest : Largest f n value place

best-step : (f : ℕ → ℕ) (n : ℕ) (b : Best f (suc n)) (t : Bool) → leb (f (suc n)) b.value ≡ t → Best f (suc (suc n))
best-step f n b true e =
    let le : f (suc n) ≤ b.value = leb-true (f (suc n)) b.value e in
    record {
      value = b.value;
      place = b.place;
      largest = record {
        bound = λ i l. ⊎_elim
            (λ (q : i ≡ suc n). rw q le)
            (λ m. b.largest.bound i m)
            (eq-or-lt_of_le (le_of_suc-le-suc l));
        inside = le_step b.largest.inside;
        hit = b.largest.hit;
        least = b.largest.least;
      };
    }
best-step f n b false e =
    let gt : b.value < f (suc n) = leb-false (f (suc n)) b.value e in
    record {
      value = f (suc n);
      place = suc n;
      largest = record {
        bound = λ i l. ⊎_elim
            (λ (q : i ≡ suc n). rw q (le_refl _))
            (λ m. let h = b.largest.bound i m in omega arith)
            (eq-or-lt_of_le (le_of_suc-le-suc l));
        inside = le_refl (suc (suc n));
        hit = refl;
        least = λ i l. let h = b.largest.bound i l in omega arith;
      };
    }

pub best : (f : ℕ → ℕ) (n : ℕ) → Best f (suc n)
best f zero =
    record {
      value = f 0;
      place = 0;
      largest = record {
        bound = λ i l. let q : i ≡ 0 = omega arith in rw q (le_refl _);
        inside = le_refl 1;
        hit = refl;
        least = λ i l. absurd (not-suc-le-zero l);
      };
    }
best f (suc n) = best-step f n (best f n) (leb (f (suc n)) (best f n).value) refl
