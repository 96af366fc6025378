-- The laws of `when`, `otherwise` and `if_none`, by which every refusal is proved to be the first that applies. Assumes nothing.
use mathlib.Core.Path.{◌≡◌, refl, sym, ap, ◌∙◌}
use mathlib.Core.Logic.{◌⊎◌, inl, inr}
use mathlib.Core.Bool.{Bool, true, false, not, ◌||◌, or-true}
use mathlib.Core.Bool as bool
use Prim.Native.Nat.{ℕ, zero, suc, ◌*◌, ◌^◌, ◌≤◌, ◌<◌}
use native.Mathlib.Omega.{arith}
use native.Mathlib.Nat.{mul-le-mul, le_of_eq}
use lib.Dec.{ltb, eqb}
use borrow.Author.Tests.{eqb-false, ltb-true, ltb-false, lt-ltb, le-ltb, eq-eqb, ne_eqb}
use Rattle.limits.specs.Refusal.{◌when◌, ◌otherwise◌, if_none}
use Rattle.limits.specs.Limits.{outside, grid_refusal, most_granted, most_ticks}

pub when_true : (n : ℕ) (t : Bool) → t ≡ true → (n when t) ≡ n
unfolding ◌when◌
when_true n t e = ap (λ x. n when x) e

pub when_false : (n : ℕ) (t : Bool) → t ≡ false → (n when t) ≡ 0
unfolding ◌when◌
when_false n t e = ap (λ x. n when x) e

pub ruleset when_laws = (when_true, when_false)

pub otherwise-none : (a b : ℕ) → a ≡ 0 → (a otherwise b) ≡ b
unfolding ◌otherwise◌
otherwise-none a b e = ap (λ x. x otherwise b) e

pub otherwise-some : (a b : ℕ) → (a ≡ 0 → ⊥) → (a otherwise b) ≡ a
unfolding ◌otherwise◌
otherwise-some zero b n = absurd (n refl)
otherwise-some (suc a) b n = refl

-- What holds of 0 and of the numbers that are written holds of the one that is given.
pub when-all : (P : ℕ → Type 0) (n : ℕ) (t : Bool) → P 0 → P n → P (n when t)
unfolding ◌when◌
when-all P n true none some = some
when-all P n false none some = none

pub otherwise-all : (P : ℕ → Type 0) (a b : ℕ) → P a → P b → P (a otherwise b)
unfolding ◌otherwise◌
otherwise-all P zero b first next = next
otherwise-all P (suc a) b first next = first

-- The first part gives the number; or it gives none and the second does.
pub at_first : (a b x : ℕ) → x ≡ a → (x ≡ 0 → ⊥) → x ≡ (a otherwise b)
at_first a b x e n = e ∙ sym (otherwise-some a b (λ z. n (e ∙ z)))

pub at_next : (a b x : ℕ) → a ≡ 0 → x ≡ b → x ≡ (a otherwise b)
at_next a b x e f = f ∙ sym (otherwise-none a b e)

-- No refusal at all means that neither part gives one.
pub both-none : (a b : ℕ) → (a otherwise b) ≡ 0 → (a ≡ 0) × (b ≡ 0)
unfolding ◌otherwise◌
both-none zero b e = (refl, e)
both-none (suc a) b e = absurd (omega arith)

-- A number above 0 under `when` is given exactly when the test passes.
pub when-none : (n : ℕ) (t : Bool) → 0 < n → (n when t) ≡ 0 → t ≡ false
unfolding ◌when◌
when-none n true l e = absurd (omega arith)
when-none n false l e = refl

pub none_left : {A : Type 0} (n : ℕ) (a b : A) → n ≡ 0 → if_none n a b ≡ a
unfolding if_none
none_left n a b e = ap (λ x. if_none x a b) e

pub none_right : {A : Type 0} (n : ℕ) (a b : A) → (n ≡ 0 → ⊥) → if_none n a b ≡ b
unfolding if_none
none_right zero a b h = absurd (h refl)
none_right (suc n) a b h = refl

-- What `if_none` gives tells which of the two it was.
pub either : {A : Type 0} (n : ℕ) (a b : A) {x : A} → if_none n a b ≡ x → ((n ≡ 0) × (a ≡ x)) ⊎ ((n ≡ 0 → ⊥) × (b ≡ x))
unfolding if_none
either zero a b e = inl (refl, e)
either (suc n) a b e = inr (λ z. omega arith, e)

-- No test both passes and fails.
pub clash : {A : Type 0} {b : Bool} → b ≡ true → b ≡ false → A
clash e f = absurd (let z : ◌≡◌ {A = ℕ} 0 1 = cc in omega arith)

pub or-false : (a b : Bool) → (a || b) ≡ false → (a ≡ false) × (b ≡ false)
or-false true b e = clash refl e
or-false false b e = (refl, e)

-- Two numbers that are both right aren't refused.
pub both_right : (n a x b y : ℕ) → a ≡ x → b ≡ y → 0 ≡ (n when (not (eqb a x) || not (eqb b y)))
unfolding ◌when◌
both_right n a x b y e f = sym (ap (λ c. n when (not c || not (eqb b y))) (eq-eqb a x e) ∙ ap (λ c. n when not c) (eq-eqb b y f))

-- What passes the bound.
pub inside : (x most : ℕ) → outside x most ≡ false → (0 < x) × (x ≤ most)
unfolding outside
inside x most e =
    let p = or-false (eqb x 0) (ltb most x) e in
    let n : ¬ (x ≡ 0) = eqb-false x 0 p.0 in
    (omega arith, ltb-false most x p.1)

pub outside_above : (x most : ℕ) → (x ≡ 0 → ⊥) → ltb most x ≡ outside x most
unfolding outside
outside_above x most n = sym (ap (λ b. b || ltb most x) (ne_eqb x 0 n))

-- ---- a grant's wheel, tested part by part

pub grid-number : (N v loss : ℕ) → outside N most_granted ≡ true → 12 ≡ grid_refusal N v loss
unfolding grid_refusal ◌when◌
grid-number N v loss e = sym (ap (λ b. 12 when (b || eqb v 0 || ltb most_ticks (N * v) || ltb v loss)) e)

-- A length over the wheel's bound makes the product too large whatever the number of slots is.
too_long : (N v : ℕ) → 0 < N → outside v most_ticks ≡ true → (eqb v 0 || ltb most_ticks (N * v)) ≡ true
unfolding outside
too_long N v l e = go (eqb v 0) refl
  where
    go : (b : Bool) → eqb v 0 ≡ b → (b || ltb most_ticks (N * v)) ≡ true
    go true p = refl
    go false p =
        let above : ltb most_ticks v ≡ true = sym (ap (λ b. b || ltb most_ticks v) p) ∙ e in
        let m : 1 * v ≤ N * v = mul-le-mul l (le_of_eq refl) in
        lt-ltb most_ticks (N * v) (omega (arith, ltb-true most_ticks v above))

pub grid-length : (N v loss : ℕ) → outside N most_granted ≡ false → outside v most_ticks ≡ true → 12 ≡ grid_refusal N v loss
unfolding grid_refusal ◌when◌
grid-length N v loss e f =
    sym (ap (λ b. 12 when (b || eqb v 0 || ltb most_ticks (N * v) || ltb v loss)) e
    ∙ ap (λ b. 12 when (b || ltb v loss)) (too_long N v (inside N most_granted e).0 f))

pub grid-loss : (N v loss : ℕ) → v < loss → 12 ≡ grid_refusal N v loss
unfolding grid_refusal ◌when◌
grid-loss N v loss l =
    let wheel : Bool = outside N most_granted || eqb v 0 || ltb most_ticks (N * v) in
    sym (ap (λ b. 12 when (wheel || b)) (lt-ltb v loss l) ∙ ap (λ b. 12 when b) (or-true wheel))

pub grid-product :
    (N v loss : ℕ) → outside N most_granted ≡ false → outside v most_ticks ≡ false → loss ≤ v
    → (12 when ltb most_ticks (N * v)) ≡ grid_refusal N v loss
unfolding grid_refusal ◌when◌
grid-product N v loss e f short =
    let some : 0 < v = (inside v most_ticks f).0 in
    let wheel : Bool = outside N most_granted || eqb v 0 || ltb most_ticks (N * v) in
    sym (ap (λ b. 12 when (wheel || b)) (le-ltb v loss short)
    ∙ ap (λ b. 12 when b) (bool.or-false wheel)
    ∙ ap (λ b. 12 when (b || eqb v 0 || ltb most_ticks (N * v))) e
    ∙ ap (λ b. 12 when (b || ltb most_ticks (N * v))) (ne_eqb v 0 (λ z. omega arith)))

pub grid-fits : (N v : ℕ) → outside N most_granted ≡ false → outside v most_ticks ≡ false → N * v < 2 ^ 64
grid-fits N v e f =
    let m : N * v ≤ most_granted * most_ticks = mul-le-mul (inside N most_granted e).1 (inside v most_ticks f).1 in
    omega arith
