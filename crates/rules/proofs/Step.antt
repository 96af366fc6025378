-- From any fraction of a tick to a half tick of the wheel: the laws StepOverQ and CountsAdd.
--
-- Supply is a straight line between ticks whose supplies differ by one at most. So between ticks a and a + 1 a strip is dropped exactly when
-- one at a or at a + 1 is, wherever it arrives there: for every fraction in between the answer is that of the half tick.
-- In order: tests; a drop between ticks, and at a tick; the half tick for p/q; whole turns; the step; counts in two parts.
-- Not here: the worst count. Assumes nothing.
use mathlib.Core.Path.{◌≡◌, refl, sym, ap, ◌∙◌}
use mathlib.Core.Bool.{Bool, true, false, ◌||◌}
use Prim.Native.Nat.{ℕ, zero, suc, ◌+◌, ◌-◌, ◌*◌, ◌/◌, ◌%◌, ◌≤◌, ◌<◌}
use native.Mathlib.Nat.{add-zero, add_assoc, zero-mul, suc-mul, mul-add, add-mul, one-mul, mul-one, mul_comm, mul_assoc, mul_left_comm}
use native.Mathlib.Nat.{mul-le-mul_left, mul-lt-mul_of_pos_left, lt_of_mul-lt-mul_left, mod-lt, div-add-mod}
use native.Mathlib.Nat.{add-mul-div_left, add-mul-mod_self_left}
use native.Mathlib.Omega.{arith}
use lib.Dec.{ltb}
use borrow.Author.Tests.{ltb-true, ltb-false, lt-ltb, le-ltb}
use Rattle.rules.specs.Sums.{Subset, bit, number}
use Rattle.rules.specs.Supply.{Task, supply, margin, dropped, drops, count}
use Rattle.rules.specs.Worst.{Wheel}
use Rattle.rules.specs.Laws.{half_tick, StepOverQ, CountsAdd}
use Rattle.rules.proofs.Sums.{number-cong, number-split}
use Rattle.rules.proofs.Signed.{below-zero}
use Rattle.rules.proofs.Straight.{straight, supply-tick, supply-up, supply-down}

-- ---- tests

pub ltb-same : (a b c d : ℕ) → (a < b → c < d) → (c < d → a < b) → ltb a b ≡ ltb c d
ltb-same a b c d f g = go (ltb c d) refl
  where
    go : (t : Bool) → ltb c d ≡ t → ltb a b ≡ t
    go true e = lt-ltb a b (g (ltb-true c d e))
    go false e =
        let n : ¬ (a < b) = λ l. let l' = f l in let l'' = ltb-false c d e in omega arith in
        le-ltb a b (omega arith)

-- ---- drops between ticks and at a tick

-- Below zero is where the supply is less than the need.
pub dropped-ltb : (q : ℕ) (u : Subset) (t : Task) (p : ℕ) → dropped q u t p ≡ ltb (supply q u t.D p) (q * t.e)
unfolding dropped margin
dropped-ltb q u t p = below-zero (supply q u t.D p) (q * t.e)

-- A line between A at a tick and B at the next, s parts of the one and r of the other, against the need e.
below-line : (s r A B e : ℕ) → 0 < s → 0 < r → A ≤ B + 1 → B ≤ A + 1 → ltb (s * A + r * B) ((s + r) * e) ≡ (ltb A e || ltb B e)
below-line s r A B e s+ r+ down up = go (ltb A e) (ltb B e) refl refl
  where
    go : (x y : Bool) → ltb A e ≡ x → ltb B e ≡ y → ltb (s * A + r * B) ((s + r) * e) ≡ (x || y)
    go true y p q =
        let l : A + 1 ≤ e = omega (arith, ltb-true A e p) in
        let f : s * (A + 1) ≤ s * e = mul-le-mul_left s l in
        let g : r * B ≤ r * e = mul-le-mul_left r (omega arith) in
        lt-ltb (s * A + r * B) ((s + r) * e) (omega (arith, add-mul s r e, rw (mul-add, mul-one) at f))
    go false true p q =
        let l : B + 1 ≤ e = omega (arith, ltb-true B e q) in
        let f : r * (B + 1) ≤ r * e = mul-le-mul_left r l in
        let g : s * A ≤ s * e = mul-le-mul_left s (omega arith) in
        lt-ltb (s * A + r * B) ((s + r) * e) (omega (arith, add-mul s r e, rw (mul-add, mul-one) at f))
    go false false p q =
        let f : r * e ≤ r * B = mul-le-mul_left r (ltb-false B e q) in
        let g : s * e ≤ s * A = mul-le-mul_left s (ltb-false A e p) in
        le-ltb (s * A + r * B) ((s + r) * e) (omega (arith, add-mul s r e))

-- A strip r units after tick a, of s + r: the same for all s and r.
pub dropped-between :
    (u : Subset) (t : Task) (a s r : ℕ) → 0 < s → 0 < r
    → dropped (s + r) u t ((s + r) * a + r) ≡ (dropped 1 u t a || dropped 1 u t (a + 1))
dropped-between u t a s r s+ r+ =
    rw (dropped-ltb, dropped-ltb, dropped-ltb, straight u t.D a s r s+, one-mul)
    (below-line s r _ _ t.e s+ r+ (supply-down u t.D a) (supply-up u t.D a))

-- A strip at tick a.
pub dropped-tick : (q : ℕ) (u : Subset) (t : Task) (a : ℕ) → 0 < q → dropped q u t (q * a) ≡ dropped 1 u t a
dropped-tick q u t a pos =
    rw (dropped-ltb, dropped-ltb, supply-tick q u t.D a pos, one-mul)
    (ltb-same _ _ _ _ (lt_of_mul-lt-mul_left q) (λ l. mul-lt-mul_of_pos_left l pos))

pub dropped-even : (u : Subset) (t : Task) (a : ℕ) → dropped 2 u t (2 * a) ≡ dropped 1 u t a
dropped-even u t a = dropped-tick 2 u t a (omega arith)

pub dropped-odd : (u : Subset) (t : Task) (a : ℕ) → dropped 2 u t (2 * a + 1) ≡ (dropped 1 u t a || dropped 1 u t (a + 1))
dropped-odd u t a = dropped-between u t a 1 1 (omega arith) (omega arith)

-- ---- the half tick for p/q

dropped-inside :
    (q : ℕ) (u : Subset) (t : Task) (a s r : ℕ) → q ≡ s + r → 0 < s → 0 < r
    → dropped q u t (q * a + r) ≡ dropped 2 u t (2 * a + 1)
dropped-inside q u t a s r e s+ r+ =
    rw e (dropped-between u t a s r s+ r+ ∙ sym (dropped-odd u t a))

-- p as a whole number of ticks and r units.
dropped-parts : (q : ℕ) (u : Subset) (t : Task) (a r : ℕ) → r < q → dropped q u t (q * a + r) ≡ dropped 2 u t (2 * a + bit (ltb 0 r))
unfolding bit
dropped-parts q u t a zero l = rw (add-zero, add-zero) (dropped-tick q u t a l ∙ sym (dropped-even u t a))
dropped-parts q u t a (suc r) l =
    rw (lt-ltb 0 (suc r) (omega arith)) (dropped-inside q u t a (q - suc r) (suc r) (omega arith) (omega arith) (omega arith))

pub dropped-half : (q : ℕ) (u : Subset) (t : Task) (p : ℕ) → 0 < q → dropped q u t p ≡ dropped 2 u t (half_tick q p)
unfolding half_tick
dropped-half q u t p pos =
    ap (dropped q u t) (sym (div-add-mod p q)) ∙ dropped-parts q u t (p / q) (p % q) (mod-lt p pos)

-- A whole number of ticks later the half tick is as many ticks later.
half-later : (q p x : ℕ) → 0 < q → half_tick q (p + q * x) ≡ half_tick q p + 2 * x
unfolding half_tick
half-later q p x pos =
    rw (add-mul-div_left p x pos, add-mul-mod_self_left p q x, mul-add) (omega arith)

drops-half : (q : ℕ) (u : Subset) (t : Task) (n p : ℕ) → 0 < q → drops q u t n p ≡ drops 2 u t n (half_tick q p)
unfolding drops
drops-half q u t n p pos =
    number-cong _ _ n (λ i l.
    dropped-half q u t (p + i * (q * t.h)) pos
    ∙ ap (λ x. dropped 2 u t (half_tick q (p + x))) (mul_left_comm i q t.h)
    ∙ ap (dropped 2 u t) (half-later q p (i * t.h) pos)
    ∙ ap (λ x. dropped 2 u t (half_tick q p + x)) (mul_left_comm 2 i t.h))

pub count-half : (q : ℕ) (u : Subset) (t : Task) (p : ℕ) → 0 < q → count q u t p ≡ count 2 u t (half_tick q p)
unfolding count
count-half q u t p pos = drops-half q u t t.k p pos

-- ---- whole turns

turns-many : (w : ℕ) (u : Subset) → Wheel w u → (n x : ℕ) → u (x + n * w) ≡ u x
turns-many w u wheel zero x = rw (zero-mul, add-zero)
turns-many w u wheel (suc n) x =
    ap u (rw suc-mul (sym (add_assoc x (n * w) w))) ∙ wheel.turns (x + n * w) ∙ turns-many w u wheel n x

pub supply-turns : (w : ℕ) (u : Subset) → Wheel w u → (q D n p : ℕ) → 0 < q → supply q u D (p + q * (n * w)) ≡ supply q u D p
unfolding supply
supply-turns w u wheel q D n p pos =
    number-cong _ _ (q * D) (λ i l.
    let e : p + q * (n * w) + i ≡ p + i + q * (n * w) = omega arith in
    ap (λ x. u (x / q)) e ∙ ap u (add-mul-div_left (p + i) (n * w) pos) ∙ turns-many w u wheel n ((p + i) / q))

pub dropped-turns : (w : ℕ) (u : Subset) → Wheel w u → (q : ℕ) (t : Task) (n p : ℕ) → 0 < q → dropped q u t (p + q * (n * w)) ≡ dropped q u t p
dropped-turns w u wheel q t n p pos =
    rw (dropped-ltb, dropped-ltb) (ap (λ x. ltb x (q * t.e)) (supply-turns w u wheel q t.D n p pos))

pub drops-turns : (w : ℕ) (u : Subset) → Wheel w u → (q : ℕ) (t : Task) (k n p : ℕ) → 0 < q → drops q u t k (p + q * (n * w)) ≡ drops q u t k p
unfolding drops
drops-turns w u wheel q t k n p pos =
    number-cong _ _ k (λ i l.
    let e : p + q * (n * w) + i * (q * t.h) ≡ p + i * (q * t.h) + q * (n * w) = omega arith in
    ap (dropped q u t) e ∙ dropped-turns w u wheel q t n (p + i * (q * t.h)) pos)

-- A place is its remainder by the wheel and some whole turns.
parts-of : (q w p : ℕ) → p ≡ p % (q * w) + q * (p / (q * w) * w)
parts-of q w p =
    let c : q * w * (p / (q * w)) ≡ q * (p / (q * w) * w) = rw (mul_assoc, mul_comm w (p / (q * w))) in
    omega (arith, div-add-mod p (q * w))

pub supply-mod : (w : ℕ) (u : Subset) → Wheel w u → (D a : ℕ) → supply 1 u D (a % w) ≡ supply 1 u D a
supply-mod w u wheel D a =
    let e : a ≡ a % w + 1 * (a / w * w) = omega (arith, div-add-mod a w, mul_comm w (a / w)) in
    sym (ap (supply 1 u D) e ∙ supply-turns w u wheel 1 D (a / w) (a % w) (omega arith))

pub dropped-mod : (w : ℕ) (u : Subset) → Wheel w u → (q : ℕ) (t : Task) (p : ℕ) → 0 < q → dropped q u t p ≡ dropped q u t (p % (q * w))
dropped-mod w u wheel q t p pos =
    ap (dropped q u t) (parts-of q w p) ∙ dropped-turns w u wheel q t (p / (q * w)) (p % (q * w)) pos

pub drops-mod : (w : ℕ) (u : Subset) → Wheel w u → (q : ℕ) (t : Task) (k p : ℕ) → 0 < q → drops q u t k p ≡ drops q u t k (p % (q * w))
drops-mod w u wheel q t k p pos =
    ap (drops q u t k) (parts-of q w p) ∙ drops-turns w u wheel q t k (p / (q * w)) (p % (q * w)) pos

-- ---- the step

pub step-over-q : StepOverQ
unfolding count
step-over-q w u wheel t q p pos =
    count-half q u t p pos ∙ drops-mod w u wheel 2 t t.k (half_tick q p) (omega arith)

-- ---- counts in two parts

pub counts-add : CountsAdd
unfolding drops
counts-add u t q a b p =
    let later : number (λ i. dropped q u t (p + (a + i) * (q * t.h))) b ≡ number (λ i. dropped q u t (p + a * (q * t.h) + i * (q * t.h))) b =
    number-cong _ _ b (λ i l. ap (dropped q u t) (rw add-mul (omega arith))) in
    omega (arith, number-split (λ i. dropped q u t (p + i * (q * t.h))) a b)
