-- Differences of two numbers, with their sign: what the margin's laws need of them.
--
-- In order: by the sign; the order; equal differences; below zero; products; one difference less another. Statements are in ℤ, and every proof
-- goes down to ℕ. Assumes nothing.
use mathlib.Core.Path.{◌≡◌, refl, sym, ap, ◌∙◌}
use mathlib.Core.Bool.{Bool, true, false, cond, true≢false}
use Prim.Native.Nat.{ℕ, zero, suc, ◌+◌, ◌-◌, ◌*◌, ◌≤◌, ◌<◌}
use native.Mathlib.Nat.{add-zero, mul-add}
use native.Mathlib.Omega.{arith}
use lib.Dec.{ltb, leb→le, le→leb}
use lib.IntN.{ℤ, pos, negsuc, sub_ℕ, neg_ℤ, ◌+ℤ◌, ◌-ℤ◌, ◌*ℤ◌, +ℤ_idr}
use lib.Signed.{mag, lt_z, ◌≤ℤ◌, le_z_yes}
use borrow.Author.Tests.{ltb-true, ltb-false, le-ltb}

-- ---- by the sign

sub_cases : (P : ℤ → Type 0) (a b : ℕ) → (a < b → P (negsuc (b - suc a))) → (b ≤ a → P (pos (a - b))) → P (sub_ℕ a b)
sub_cases P a b less more = go (ltb a b) refl
  where
    go : (t : Bool) → ltb a b ≡ t → P (cond t (negsuc (b - suc a)) (pos (a - b)))
    go true e = less (ltb-true a b e)
    go false e = more (ltb-false a b e)

-- ---- the order

pub sub-le : (a b c d : ℕ) → a + d ≤ c + b → sub_ℕ a b ≤ℤ sub_ℕ c d
sub-le a b c d h =
    sub_cases (λ x. x ≤ℤ sub_ℕ c d) a b
    (λ l.
    sub_cases (λ y. negsuc (b - suc a) ≤ℤ y) c d
    (λ m. le_z_yes (le→leb (d - suc c) (b - suc a) (omega arith)))
    (λ m. le_z_yes tt))
    (λ l.
    sub_cases (λ y. pos (a - b) ≤ℤ y) c d
    (λ m. absurd (no l m))
    (λ m. le_z_yes (le→leb (a - b) (c - d) (omega arith))))
  where
    no : b ≤ a → c < d → ⊥
    no l m = omega arith

pub le-sub : (a b c d : ℕ) → sub_ℕ a b ≤ℤ sub_ℕ c d → a + d ≤ c + b
le-sub a b c d =
    sub_cases (λ x. x ≤ℤ sub_ℕ c d → a + d ≤ c + b) a b
    (λ l.
    sub_cases (λ y. negsuc (b - suc a) ≤ℤ y → a + d ≤ c + b) c d
    (λ m h. omega (arith, leb→le (d - suc c) (b - suc a) h.le))
    (λ m h. omega arith))
    (λ l.
    sub_cases (λ y. pos (a - b) ≤ℤ y → a + d ≤ c + b) c d
    (λ m h. absurd h.le)
    (λ m h. omega (arith, leb→le (a - b) (c - d) h.le)))

-- ---- equal differences

pub sub_same : (a b c d : ℕ) → a + d ≡ c + b → sub_ℕ a b ≡ sub_ℕ c d
sub_same a b c d e =
    sub_cases (λ x. x ≡ sub_ℕ c d) a b
    (λ l.
    sub_cases (λ y. negsuc (b - suc a) ≡ y) c d
    (λ m. ap negsuc (omega arith))
    (λ m. absurd (no l m)))
    (λ l.
    sub_cases (λ y. pos (a - b) ≡ y) c d
    (λ m. absurd (no' l m))
    (λ m. ap pos (omega arith)))
  where
    no : a < b → d ≤ c → ⊥
    no l m = omega arith

    no' : b ≤ a → c < d → ⊥
    no' l m = omega arith

pub sub-zero : (a : ℕ) → sub_ℕ a 0 ≡ pos a
sub-zero a = sub_cases (λ x. x ≡ pos a) a 0 (λ l. absurd (no l)) (λ l. ap pos (omega arith))
  where
    no : a < 0 → ⊥
    no l = omega arith

pub pos-minus : (a b : ℕ) → (pos a -ℤ pos b) ≡ sub_ℕ a b
pos-minus a zero = ap pos (add-zero a) ∙ sym (sub-zero a)
pos-minus a (suc b) = refl

pub mag-sub : (a b n : ℕ) → a < n → b ≤ n → mag (sub_ℕ a b) < n
mag-sub a b n h k = sub_cases (λ x. mag x < n) a b (λ l. omega arith) (λ l. omega arith)

-- ---- below zero

pub below-zero : (a b : ℕ) → lt_z (sub_ℕ a b) (pos 0) ≡ ltb a b
below-zero a b = go (ltb a b) refl
  where
    go : (t : Bool) → ltb a b ≡ t → lt_z (cond t (negsuc (b - suc a)) (pos (a - b))) (pos 0) ≡ t
    go true e = refl
    go false e = le-ltb (a - b) 0 (omega arith)

pub zero-le : (z : ℤ) → lt_z z (pos 0) ≡ false → pos 0 ≤ℤ z
zero-le (pos n) e = le_z_yes (le→leb 0 n (omega arith))
zero-le (negsuc n) e = absurd (true≢false e)

-- ---- products

pub sub-times : (q a b : ℕ) → 0 < q → (pos q *ℤ sub_ℕ a b) ≡ sub_ℕ (q * a) (q * b)
sub-times q a b q+ =
    sub_cases (λ x. (pos q *ℤ x) ≡ sub_ℕ (q * a) (q * b)) a b
    (λ l.
    let e : b ≡ a + suc (b - suc a) = omega arith in
    let f : q * b ≡ q * a + q * suc (b - suc a) = ap (λ n. q * n) e ∙ mul-add q a (suc (b - suc a)) in
    less (q * suc (b - suc a)) (some q (suc (b - suc a)) q+ (omega arith)) ∙ sub_same 0 (q * suc (b - suc a)) (q * a) (q * b) (omega arith))
    (λ l.
    let e : a ≡ b + (a - b) = omega arith in
    let f : q * a ≡ q * b + q * (a - b) = ap (λ n. q * n) e ∙ mul-add q b (a - b) in
    sym (sub-zero (q * (a - b))) ∙ sub_same (q * (a - b)) 0 (q * a) (q * b) (omega arith))
  where
    some : (q n : ℕ) → 0 < q → 0 < n → 0 < q * n
    some zero n q+ n+ = elim q+ [ ]
    some (suc q) zero q+ n+ = elim n+ [ ]
    some (suc q) (suc n) q+ n+ = omega arith

    less : (n : ℕ) → 0 < n → neg_ℤ (pos n) ≡ sub_ℕ 0 n
    less zero n+ = elim n+ [ ]
    less (suc n) n+ = sym (sub_cases (λ x. x ≡ negsuc n) 0 (suc n) (λ l. ap negsuc (omega arith)) (λ l. absurd (no l)))
      where
        no : suc n ≤ 0 → ⊥
        no l = omega arith

-- ---- one difference less another

pub sub-minus : (a b n : ℕ) → (sub_ℕ a b -ℤ pos n) ≡ sub_ℕ a (b + n)
sub-minus a b zero = +ℤ_idr (sub_ℕ a b) ∙ ap (sub_ℕ a) (sym (add-zero b))
sub-minus a b (suc n) =
    sub_cases (λ x. (x +ℤ negsuc n) ≡ sub_ℕ a (b + suc n)) a b
    (λ l.
    sub_cases (λ y. negsuc (suc (b - suc a + n)) ≡ y) a (b + suc n)
    (λ m. ap negsuc (omega arith))
    (λ m. absurd (no l m)))
    (λ l. sub_same (a - b) (suc n) a (b + suc n) (omega arith))
  where
    no : a < b → b + suc n ≤ a → ⊥
    no l m = omega arith
