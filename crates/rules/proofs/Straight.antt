-- Supply at whole ticks and between them: the laws Straight and Windows, and how supply moves from tick to tick.
--
-- In order: supply in ticks; supply between ticks is a straight line; neighbours differ by one tick at most. Not here: drops.
-- Assumes nothing.
use mathlib.Core.Path.{◌≡◌, sym, ap, ◌∙◌}
use Prim.Native.Nat.{ℕ, zero, suc, ◌+◌, ◌*◌, ◌/◌, ◌≤◌, ◌<◌}
use native.Mathlib.Nat.{add-zero, add_assoc, zero-mul, mul-zero, mul-suc, mul-add, one-mul, div-one, div-eq_of_lt, mul-add-div}
use native.Mathlib.Numerals.{add-one}
use native.Mathlib.Omega.{arith}
use Rattle.rules.specs.Sums.{Subset, bit, number}
use Rattle.rules.specs.Supply.{supply}
use Rattle.rules.specs.Laws.{Straight, Windows}
use Rattle.rules.proofs.Sums.{bit_le, number-cong, number-split, number-const, number-none, number_more}

-- ---- supply in ticks

pub supply-ticks : (u : Subset) (D a : ℕ) → supply 1 u D a ≡ number (λ i. u (a + i)) D
unfolding supply
supply-ticks u D a = rw one-mul (number-cong _ _ D (λ i l. ap u (div-one (a + i))))

pub supply-more : (u : Subset) (D a : ℕ) → supply 1 u (D + 1) a ≡ supply 1 u D a + bit (u (a + D))
supply-more u D a = rw (supply-ticks u (D + 1) a, supply-ticks u D a) (number_more (λ i. u (a + i)) D)

pub windows : Windows
windows u D a = rw supply-ticks (sym (number-split u a D))

-- One tick later a window loses its first tick and gains the one behind its end.
pub supply-next : (u : Subset) (D a : ℕ) → supply 1 u D (a + 1) + bit (u a) ≡ supply 1 u D a + bit (u (a + D))
supply-next u D a =
    let p = windows u D a in
    let q = windows u D (a + 1) in
    let r = number_more u a in
    let s = number_more u (a + D) in
    let e : number u (a + 1 + D) ≡ number u (a + D + 1) = ap (number u) (omega arith) in
    omega arith

pub supply-up : (u : Subset) (D a : ℕ) → supply 1 u D (a + 1) ≤ supply 1 u D a + 1
supply-up u D a = omega (arith, supply-next u D a, bit_le (u (a + D)))

pub supply-down : (u : Subset) (D a : ℕ) → supply 1 u D a ≤ supply 1 u D (a + 1) + 1
supply-down u D a = omega (arith, supply-next u D a, bit_le (u a))

-- ---- between ticks

-- The q units that begin r units after tick a: s of them lie in tick a, r in tick a + 1.
one-tick :
    (u : Subset) (a s r : ℕ) → 0 < s
    → number (λ i. u (((s + r) * a + r + i) / (s + r))) (s + r) ≡ s * bit (u a) + r * bit (u (a + 1))
one-tick u a s r pos =
    let f : Subset = λ i. u (((s + r) * a + r + i) / (s + r)) in
    let q+ : 0 < s + r = omega arith in
    let left : number f s ≡ s * bit (u a) =
    number-const f (u a) s (λ i l.
    ap u
    (ap (λ x. x / (s + r)) (add_assoc ((s + r) * a) r i)
    ∙ mul-add-div q+ a (r + i)
    ∙ ap (λ x. a + x) (div-eq_of_lt (omega arith))
    ∙ add-zero a)) in
    let right : number (λ i. f (s + i)) r ≡ r * bit (u (a + 1)) =
    number-const (λ i. f (s + i)) (u (a + 1)) r (λ i l.
    let e : (s + r) * a + r + (s + i) ≡ (s + r) * (a + 1) + i =
    rw (add-one, mul-suc) (omega arith) in
    ap u
    (ap (λ x. x / (s + r)) e
    ∙ mul-add-div q+ (a + 1) i
    ∙ ap (λ x. a + 1 + x) (div-eq_of_lt (omega arith))
    ∙ add-zero (a + 1))) in
    omega (arith, number-split f s r)

-- ---- a straight line

-- The last tick of a window, split off.
supply-last : (q : ℕ) (u : Subset) (D p : ℕ) → supply q u (D + 1) p ≡ supply q u D p + number (λ i. u ((p + q * D + i) / q)) q
unfolding supply
supply-last q u D p =
    let cells : number (λ i. u ((p + (q * D + i)) / q)) q ≡ number (λ i. u ((p + q * D + i) / q)) q =
    number-cong _ _ q (λ i l. ap (λ x. u (x / q)) (omega arith)) in
    rw (add-one, mul-suc) (omega (arith, number-split (λ i. u ((p + i) / q)) (q * D) q))

-- One tick more adds s cells of tick a + D and r cells of the next, and the same to the two windows of whole ticks.
straight-step :
    (u : Subset) (D a s r : ℕ) → 0 < s
    → supply (s + r) u D ((s + r) * a + r) ≡ s * supply 1 u D a + r * supply 1 u D (a + 1)
    → supply (s + r) u (D + 1) ((s + r) * a + r) ≡ s * supply 1 u (D + 1) a + r * supply 1 u (D + 1) (a + 1)
straight-step u D a s r pos ih =
    let q : ℕ = s + r in
    let place : q * a + r + q * D ≡ q * (a + D) + r = rw mul-add (omega arith) in
    let cells : number (λ i. u ((q * a + r + q * D + i) / q)) q ≡ s * bit (u (a + D)) + r * bit (u (a + D + 1)) =
    number-cong _ _ q (λ i l. ap (λ x. u ((x + i) / q)) place) ∙ one-tick u (a + D) s r pos in
    let next : bit (u (a + 1 + D)) ≡ bit (u (a + D + 1)) = ap (λ x. bit (u x)) (omega arith) in
    rw (supply-last (s + r) u D ((s + r) * a + r), supply-more u D a, supply-more u D (a + 1), mul-add, mul-add, next)
    (omega arith)

pub supply-empty : (q : ℕ) (u : Subset) (p : ℕ) → supply q u 0 p ≡ 0
unfolding supply
supply-empty q u p = rw mul-zero (number-none _)

pub straight : Straight
straight u zero a s r pos =
    rw (supply-empty (s + r) u ((s + r) * a + r), supply-empty 1 u a, supply-empty 1 u (a + 1)) (omega arith)
straight u (suc D) a s r pos = rw (← add-one D) (straight-step u D a s r pos (straight u D a s r pos))

-- At a whole tick supply is q times that in ticks.
pub supply-tick : (q : ℕ) (u : Subset) (D a : ℕ) → 0 < q → supply q u D (q * a) ≡ q * supply 1 u D a
supply-tick q u D a pos =
    let l = straight u D a q 0 pos in
    rw (add-zero, add-zero, zero-mul, add-zero) at l
