-- Rule 8: the laws WorstPlace and NoZones.
--
-- A strip dropped at a tick is dropped half a tick before it and half a tick after it too. So an even half tick above 0 is no worse than the
-- odd one before it. An odd half tick is worse than the even one before it only where some strip meets a zone start.
-- In order: drops beside a tick; going back on the wheel; the worst place; where no zone starts. Assumes nothing.
use mathlib.Core.Path.{◌≡◌, refl, sym, ap, ◌∙◌}
use mathlib.Core.Logic.{◌⊎◌, inl, inr}
use mathlib.Core.Bool.{Bool, true, false, not, ◌&&◌}
use Prim.Native.Nat.{ℕ, zero, suc, ◌+◌, ◌-◌, ◌*◌, ◌/◌, ◌%◌, ◌≤◌, ◌<◌}
use native.Mathlib.Nat.{mul_left_comm, mul_comm, mod-lt, mod-eq_of_lt, div-add-mod, mod-add-mod}
use native.Mathlib.Nat.{add-zero, mul-add, mul-one, add-mul-mod_self_left}
use borrow.Author.Tests.{not-true}
use native.Mathlib.Omega.{arith}
use Rattle.rules.specs.Sums.{Subset}
use Rattle.rules.specs.Supply.{Task, dropped, drops, count}
use Rattle.rules.specs.Worst.{Wheel, Worst}
use Rattle.rules.specs.Zone.{ZoneStart, Candidate, back}
use Rattle.rules.specs.Laws.{half_tick, WorstPlace, NoZones, Alike}
use Rattle.rules.proofs.Sums.{by-parity, number-cong, number-mono, or_left, or_right, and_left, and_right, found-or-none, Found}
use Rattle.rules.proofs.Step.{dropped-even, dropped-odd, dropped-half, dropped-turns}

-- ---- drops beside a tick

pub dropped-after : (u : Subset) (t : Task) (a : ℕ) → dropped 2 u t (2 * a) ≡ true → dropped 2 u t (2 * a + 1) ≡ true
dropped-after u t a h =
    dropped-odd u t a ∙ or_left (dropped 1 u t a) (dropped 1 u t (a + 1)) (sym (dropped-even u t a) ∙ h)

pub dropped-before : (u : Subset) (t : Task) (a : ℕ) → dropped 2 u t (2 * (a + 1)) ≡ true → dropped 2 u t (2 * a + 1) ≡ true
dropped-before u t a h =
    dropped-odd u t a ∙ or_right (dropped 1 u t a) (dropped 1 u t (a + 1)) (sym (dropped-even u t (a + 1)) ∙ h)

-- Strip i from half tick 2a, and from the one behind it.
strip-even : (a i h : ℕ) → 2 * a + i * (2 * h) ≡ 2 * (a + i * h)
strip-even a i h = omega (arith, mul_left_comm i 2 h)

strip-odd : (a i h : ℕ) → 2 * a + 1 + i * (2 * h) ≡ 2 * (a + i * h) + 1
strip-odd a i h = omega (arith, mul_left_comm i 2 h)

-- The counts of an even half tick and of its neighbours.
pub count-after : (u : Subset) (t : Task) (a : ℕ) → count 2 u t (2 * a) ≤ count 2 u t (2 * a + 1)
unfolding count drops
count-after u t a =
    number-mono _ _ t.k (λ i l d.
    ap (dropped 2 u t) (strip-odd a i t.h)
    ∙ dropped-after u t (a + i * t.h) (ap (dropped 2 u t) (sym (strip-even a i t.h)) ∙ d))

pub count-before : (u : Subset) (t : Task) (a : ℕ) → count 2 u t (2 * (a + 1)) ≤ count 2 u t (2 * a + 1)
unfolding count drops
count-before u t a =
    number-mono _ _ t.k (λ i l d.
    let e : 2 * (a + i * t.h + 1) ≡ 2 * (a + 1) + i * (2 * t.h) = omega (arith, mul_left_comm i 2 t.h) in
    ap (dropped 2 u t) (strip-odd a i t.h) ∙ dropped-before u t (a + i * t.h) (ap (dropped 2 u t) e ∙ d))

-- ---- going back on the wheel

-- Tick y of the wheel is its remainder, r half ticks after it too.
pub tick-mod : (w : ℕ) (u : Subset) → Wheel w u → (t : Task) (y r : ℕ) → dropped 2 u t (2 * y + r) ≡ dropped 2 u t (2 * (y % w) + r)
tick-mod w u wheel t y r =
    let e : 2 * y + r ≡ 2 * (y % w) + r + 2 * (y / w * w) =
    omega (arith, div-add-mod y w, mul_comm w (y / w)) in
    ap (dropped 2 u t) e ∙ dropped-turns w u wheel 2 t (y / w) (2 * (y % w) + r) (omega arith)

pub back-of : (w b x : ℕ) → b < w → back w ((b + x) % w) x ≡ b
unfolding back
back-of w b x l =
    let r : x % w < w = mod-lt x (omega arith) in
    let e : b + x + (w - x % w) ≡ b + w * (x / w + 1) =
    omega (arith, div-add-mod x w, mul-add w (x / w) 1, mul-one w) in
    mod-add-mod (b + x) w (w - x % w) ∙ ap (λ y. y % w) e ∙ add-mul-mod_self_left b w (x / w + 1) ∙ mod-eq_of_lt l

-- A zone starts where a painted tick has a dropped half tick behind it, in any turn.
starts : (w : ℕ) (u : Subset) → Wheel w u → (t : Task) (y : ℕ) → dropped 2 u t (2 * y) ≡ false → dropped 2 u t (2 * y + 1) ≡ true → ZoneStart w u t (y % w)
starts w u wheel t y painted missed =
    record {
      inside = mod-lt y wheel.some;
      painted =
          ap (dropped 2 u t) (sym (add-zero (2 * (y % w)))) ∙ sym (tick-mod w u wheel t y 0)
          ∙ ap (dropped 2 u t) (add-zero (2 * y)) ∙ painted;
      missed = sym (tick-mod w u wheel t y 1) ∙ missed;
    }

-- ---- the worst place

-- Strip i from tick b meets a zone start.
meets : Subset → Task → ℕ → Subset
meets u t b i = not (dropped 2 u t (2 * (b + i * t.h))) && dropped 2 u t (2 * (b + i * t.h) + 1)

-- Where no strip meets one, half a tick later is no worse.
no-worse : (u : Subset) (t : Task) (b : ℕ) → ((i : ℕ) → i < t.k → meets u t b i ≡ false) → count 2 u t (2 * b + 1) ≤ count 2 u t (2 * b)
unfolding count drops meets
no-worse u t b none =
    number-mono _ _ t.k (λ i l d.
    ap (dropped 2 u t) (strip-even b i t.h)
    ∙ painted-not _ _ (none i l) (ap (dropped 2 u t) (sym (strip-odd b i t.h)) ∙ d))
  where
    painted-not : (x y : Bool) → (not x && y) ≡ false → y ≡ true → x ≡ true
    painted-not true y h e = refl
    painted-not false y h e = sym h ∙ e

-- An even half tick above 0 is never the worst offset.
never-even : (w : ℕ) (u : Subset) (t : Task) (c a : ℕ) → Worst w u t c (2 * (a + 1)) → ⊥
never-even w u t c a worst =
    let x : c ≤ count 2 u t (2 * a + 1) = rw worst.hit at (count-before u t a) in
    let y : count 2 u t (2 * a + 1) ≤ c = worst.bound 2 (2 * a + 1) (omega arith) in
    let z = worst.least (2 * a + 1) (omega arith) in
    omega arith

odd_place :
    (w : ℕ) (u : Subset) → Wheel w u → (t : Task) (c b : ℕ) → Worst w u t c (2 * b + 1)
    → Found (meets u t b) t.k ⊎ ((i : ℕ) → i < t.k → meets u t b i ≡ false)
    → Candidate w u t (2 * b + 1)
unfolding meets
odd_place w u wheel t c b worst (inl f) =
    let x : ℕ = f.place * t.h in
    record {
      a = (b + x) % w;
      n = f.place;
      zone =
          starts w u wheel t (b + x)
          (not-true _ (and_left _ _ f.passes))
          (and_right (not (dropped 2 u t (2 * (b + x)))) _ f.passes);
      strip = f.below;
      after = ap (λ y. 2 * y + 1) (sym (back-of w b x (omega (arith, worst.inside))));
    }
odd_place w u wheel t c b worst (inr none) =
    let x : c ≤ count 2 u t (2 * b) = rw worst.hit at (no-worse u t b none) in
    let y : count 2 u t (2 * b) ≤ c = worst.bound 2 (2 * b) (omega arith) in
    let z = worst.least (2 * b) (omega arith) in
    absurd (omega arith)

pub worst-place : WorstPlace
worst-place w u wheel t c =
    by-parity (λ o. Worst w u t c o → (o ≡ 0) ⊎ Candidate w u t o) even
    (λ b worst. inr (odd_place w u wheel t c b worst (found-or-none (meets u t b) t.k)))
  where
    even : (b : ℕ) → Worst w u t c (2 * b) → (2 * b ≡ 0) ⊎ Candidate w u t (2 * b)
    even zero worst = inl refl
    even (suc a) worst =
        let e : 2 * suc a ≡ 2 * (a + 1) = omega arith in
        absurd (never-even w u t c a (rw e at worst))

-- ---- where no zone starts

module _ (w : ℕ) (u : Subset) (wheel : Wheel w u) (t : Task) (none : (a : ℕ) → ZoneStart w u t a → ⊥) where
  painted-after : (a : ℕ) → dropped 2 u t (2 * a) ≡ false → dropped 2 u t (2 * a + 1) ≡ false
  painted-after a p = go (dropped 2 u t (2 * a + 1)) refl
    where
      go : (b : Bool) → dropped 2 u t (2 * a + 1) ≡ b → b ≡ false
      go true e = absurd (none (a % w) (starts w u wheel t a p e))
      go false e = refl

  painted-next : (a : ℕ) → dropped 2 u t (2 * a) ≡ false → dropped 2 u t (2 * (a + 1)) ≡ false
  painted-next a p = go (dropped 2 u t (2 * (a + 1))) refl
    where
      go : (b : Bool) → dropped 2 u t (2 * (a + 1)) ≡ b → b ≡ false
      go true e = sym (dropped-before u t a e) ∙ painted-after a p
      go false e = refl

  painted-on : (a n : ℕ) → dropped 2 u t (2 * a) ≡ false → dropped 2 u t (2 * (a + n)) ≡ false
  painted-on a zero p = rw add-zero p
  painted-on a (suc n) p =
      let e : 2 * (a + suc n) ≡ 2 * (a + n + 1) = omega arith in
      rw e (painted-next (a + n) (painted-on a n p))

  -- a × (w − 1) ticks after tick a the wheel is at tick 0 again.
  dropped-on : dropped 2 u t 0 ≡ true → (a : ℕ) → dropped 2 u t (2 * a) ≡ true
  dropped-on d a = go (dropped 2 u t (2 * a)) refl
    where
      go : (b : Bool) → dropped 2 u t (2 * a) ≡ b → b ≡ true
      go true e = refl
      go false e =
          let once : a * w ≡ a * (1 + (w - 1)) = ap (λ x. a * x) (omega (arith, wheel.some)) in
          let home : 2 * (a + a * (w - 1)) ≡ 0 + 2 * (a * w) = omega (arith, mul-add a 1 (w - 1), mul-one a) in
          sym (rw home at (painted-on a (a * (w - 1)) e)) ∙ dropped-turns w u wheel 2 t a 0 (omega arith) ∙ d

  -- From whole ticks to the half ticks behind them, and from half ticks to every fraction.
  everywhere :
      (b : Bool) → ((a : ℕ) → dropped 2 u t (2 * a) ≡ b) → ((a : ℕ) → dropped 2 u t (2 * a + 1) ≡ b)
      → (q p : ℕ) → 0 < q → dropped q u t p ≡ b
  everywhere b even odd q p pos = dropped-half q u t p pos ∙ by-parity (λ x. dropped 2 u t x ≡ b) even odd (half_tick q p)

  all_alike : (b : Bool) → dropped 2 u t 0 ≡ b → Alike u t
  all_alike true d =
      let even : (a : ℕ) → dropped 2 u t (2 * a) ≡ true = dropped-on d in
      inl (everywhere true even (λ a. dropped-after u t a (even a)))
  all_alike false d =
      let even : (a : ℕ) → dropped 2 u t (2 * a) ≡ false = λ a. ap (dropped 2 u t) (omega arith) ∙ painted-on 0 a d in
      inr (everywhere false even (λ a. painted-after a (even a)))

-- Where all strips fare alike every half tick has the same count.
count-alike : (u : Subset) (t : Task) → Alike u t → (x y : ℕ) → count 2 u t x ≡ count 2 u t y
unfolding count drops
count-alike u t (inl h) x y =
    number-cong _ _ t.k (λ i l. h 2 (x + i * (2 * t.h)) (omega arith) ∙ sym (h 2 (y + i * (2 * t.h)) (omega arith)))
count-alike u t (inr h) x y =
    number-cong _ _ t.k (λ i l. h 2 (x + i * (2 * t.h)) (omega arith) ∙ sym (h 2 (y + i * (2 * t.h)) (omega arith)))

pub no-zones : NoZones
no-zones w u wheel t none =
    let alike : Alike u t = all_alike w u wheel t none (dropped 2 u t 0) refl in
    (alike, λ c o worst. let l = worst.least 0 (count-alike u t alike 0 o ∙ worst.hit) in omega arith)
