-- Strips come round: after w / g of them, where g is the greatest common divisor of the wheel w and the period h, their places come back, and no
-- sooner. Such a round meets just the ticks that are as many ticks more than a multiple of g as its first one is.
--
-- In order: sums of sums; places that come back; whole rounds; how long a round is; every tick on an orbit; what a round meets. Assumes nothing.
use mathlib.Core.Path.{◌≡◌, refl, sym, ap, ◌∙◌}
use Prim.Native.Nat.{ℕ, zero, suc, ◌+◌, ◌*◌, ◌/◌, ◌%◌, ◌≤◌, ◌<◌}
use native.Mathlib.Nat.{add-zero, zero-add, zero-mul, mul-zero, suc-mul, add-mul, mul_assoc, mul_left_comm, add_comm}
use native.Mathlib.Nat.{mod-lt, mod-mod, mod_self, zero-mod, mod-eq_of_lt, mod-add-mod, mod-add-div', div-add-mod', div-mul_cancel}
use native.Mathlib.Nat.{dvd-mul_right, dvd-mul_left_of_dvd, mul-dvd-mul_left, mod-eq-zero_of_dvd, dvd_of_mod-eq-zero}
use native.Mathlib.Nat.{le_of_dvd, pos_of_dvd_of_pos, mul-pos, mul-le-mul_right, le_of_mul-le-mul_right, eq_of_mul-eq-mul_left}
use native.Mathlib.Omega.{arith}
use Rattle.rules.specs.Sums.{sum}
use Rattle.rules.proofs.Sums.{sum-cong, sum-const, sum_both}
use Rattle.maps.specs.Maps.{strips}
use Rattle.maps.proofs.Strips.{strips-add}
use Rattle.divisor.specs.Divisor.{Gcd}
use Rattle.divisor.proofs.Divisor.{gcd-some, same_add, same-times, reach}
use Rattle.orbits.specs.Laws.{RoundIsShortest}

-- ---- sums of sums

-- A table summed by its rows and by its columns.
sum-swap : (f : ℕ → ℕ → ℕ) (m n : ℕ) → sum (λ i. sum (f i) n) m ≡ sum (λ j. sum (λ i. f i j) m) n
unfolding sum
sum-swap f zero n = sym (sum-const (λ _. 0) 0 n (λ _ _. refl) ∙ mul-zero n)
sum-swap f (suc m) n = omega (arith, sum-swap f m n, sum_both (λ j. sum (λ i. f i j) m) (f m) n)

-- ---- places that come back

home : (w t a : ℕ) → a % w ≡ 0 → (t + a) % w ≡ t % w
home w t a back = same_add w t t a 0 refl (back ∙ sym (zero-mod w)) ∙ ap (λ x. x % w) (add-zero t)

home-times : (w n a : ℕ) → a % w ≡ 0 → (n * a) % w ≡ 0
home-times w n a back = mod-eq-zero_of_dvd w (dvd-mul_left_of_dvd w (dvd_of_mod-eq-zero w back) n)

-- Strips from places that are the same beside whole turns.
strips-same : (f : ℕ → ℕ) (w h n a b : ℕ) → a % w ≡ b % w → strips f w h n a ≡ strips f w h n b
unfolding strips
strips-same f w h n a b e = sum-cong _ _ n (λ i _. ap f (same_add w a b (i * h) (i * h) e refl))

strips-home : (f : ℕ → ℕ) (w h r n t : ℕ) → (r * h) % w ≡ 0 → strips f w h n ((t + r * h) % w) ≡ strips f w h n t
strips-home f w h r n t back = strips-same f w h n _ t (mod-mod _ w ∙ home w t (r * h) back)

-- ---- whole rounds

-- n whole rounds of r strips and b more.
pub strips-round :
    (f : ℕ → ℕ) (w h r n b t : ℕ) → 0 < w → (r * h) % w ≡ 0
    → strips f w h (n * r + b) t ≡ n * strips f w h r t + strips f w h b t
strips-round f w h r zero b t some back = simp (zero-mul, zero-add)
strips-round f w h r (suc n) b t some back =
    let round = strips f w h r t in
    let e : suc n * r + b ≡ r + (n * r + b) = omega (arith, suc-mul n r) in
    let rest = strips-home f w h r (n * r + b) t back ∙ strips-round f w h r n b t some back in
    rw e (strips-add f w h r (n * r + b) t ∙ omega (arith, rest, suc-mul n round))

-- A round meets the same from each of its places.
pub round-turned :
    (f : ℕ → ℕ) (w h r c i : ℕ) → 0 < w → (r * h) % w ≡ 0 → strips f w h r ((c + i * h) % w) ≡ strips f w h r c
round-turned f w h r c i some back =
    let e : strips f w h (i + r) c ≡ strips f w h (r + i) c = ap (λ n. strips f w h n c) (add_comm i r) in
    omega (arith, e, strips-add f w h i r c, strips-add f w h r i c, strips-home f w h r i c back)

-- ---- how long a round is

whole : {w h g : ℕ} → Gcd w h g → w / g * g ≡ w
whole {g = g} d = div-mul_cancel g d.left

whole-home : {w h g : ℕ} → Gcd w h g → (w / g * g) % w ≡ 0
whole-home {w} d = ap (λ x. x % w) (whole d) ∙ mod_self w

pub round-home : (w h g : ℕ) → 0 < w → Gcd w h g → (w / g * h) % w ≡ 0
round-home w h g some d = mod-eq-zero_of_dvd w (rw (whole d) at (mul-dvd-mul_left g (w / g) d.right))

pub round-some : (w h g : ℕ) → 0 < w → Gcd w h g → 0 < w / g
round-some w h g some d = pos_of_dvd_of_pos (rw (whole d) at (dvd-mul_right (w / g) g)) some

-- No smaller number of strips comes back.
round-least : (w h g n : ℕ) → 0 < w → Gcd w h g → 0 < n → (n * h) % w ≡ 0 → w / g ≤ n
round-least w h g n some d many back =
    let x = reach w h g some d in
    let ground = gcd-some d some in
    let turns : (n * g) % w ≡ 0 =
    sym (same-times w n (x.0 * h) g x.1) ∙ ap (λ y. y % w) (mul_left_comm n x.0 h) ∙ home-times w x.0 (n * h) back in
    let most : w / g * g ≤ n * g = rw (whole d) (le_of_dvd (mul-pos many ground) (dvd_of_mod-eq-zero w turns)) in
    le_of_mul-le-mul_right most ground

pub round-is-shortest : RoundIsShortest
round-is-shortest w h g some d = (round-home w h g some d, λ n. round-least w h g n some d)

-- ---- every tick on an orbit

-- Steps of g are strips too.
steps : (w h g p j : ℕ) → 0 < w → Gcd w h g → (n : ℕ) × ((p + n * h) % w ≡ (p + j * g) % w)
steps w h g p j some d =
    let x = reach w h g some d in
    (j * x.0, same_add w p p (j * x.0 * h) (j * g) refl (ap (λ y. y % w) (mul_assoc j x.0 h) ∙ same-times w j (x.0 * h) g x.1))

-- Tick p is where a strip of the round from a tick below g arrives.
pub record OnOrbit (w h g p : ℕ) : Type 0 where
  pub start : ℕ
  pub below : start < g
  pub strip : ℕ
  pub few : strip < w / g
  pub place : (start + strip * h) % w ≡ p

pub on-orbit : (w h g p : ℕ) → 0 < w → Gcd w h g → p < w → OnOrbit w h g p
on-orbit w h g p some d inside =
    let r = w / g in
    let s = steps w h g (p % g) (p / g) some d in
    let n = s.0 in
    let rounds : p % g + n % r * h + n / r * (r * h) ≡ p % g + n * h =
    omega (arith, mul_assoc (n / r) r h, add-mul (n / r * r) (n % r) h, ap (λ y. y * h) (div-add-mod' n r)) in
    record {
      start = p % g;
      below = mod-lt p (gcd-some d some);
      strip = n % r;
      few = mod-lt n (round-some w h g some d);
      place =
          sym (home w (p % g + n % r * h) (n / r * (r * h)) (home-times w (n / r) (r * h) (round-home w h g some d)))
          ∙ ap (λ y. y % w) rounds ∙ s.1 ∙ ap (λ y. y % w) (mod-add-div' p g) ∙ mod-eq_of_lt inside;
    }

-- ---- what a round meets

-- A round in steps of h meets what one in steps of g meets: either meets the same from every place of the other, and the rounds from all places of
-- the other together meet the same ticks for both.
round-alike : (f : ℕ → ℕ) (w h g p : ℕ) → 0 < w → Gcd w h g → strips f w h (w / g) p ≡ strips f w g (w / g) p
unfolding strips
round-alike f w h g p some d =
    let r = w / g in
    let along : sum (λ j. strips f w h r ((p + j * g) % w)) r ≡ r * strips f w h r p =
    sum-const _ _ r (λ j _.
    let s = steps w h g p j some d in
    ap (strips f w h r) (sym s.1) ∙ round-turned f w h r p s.0 some (round-home w h g some d)) in
    let across : sum (λ i. strips f w g r ((p + i * h) % w)) r ≡ r * strips f w g r p =
    sum-const _ _ r (λ i _.
    let e : i * (h / g) * g ≡ i * h = mul_assoc i (h / g) g ∙ ap (λ x. i * x) (div-mul_cancel g d.right) in
    ap (λ x. strips f w g r ((p + x) % w)) (sym e) ∙ round-turned f w g r p (i * (h / g)) some (whole-home d)) in
    let swapped : sum (λ j. strips f w h r ((p + j * g) % w)) r ≡ sum (λ i. strips f w g r ((p + i * h) % w)) r =
    sum-swap (λ j i. f (((p + j * g) % w + i * h) % w)) r r
    ∙ sum-cong _ _ r (λ i _. sum-cong _ _ r (λ j _.
    let e : p + j * g + i * h ≡ p + i * h + j * g = omega arith in
    ap f (mod-add-mod (p + j * g) w (i * h) ∙ ap (λ x. x % w) e ∙ sym (mod-add-mod (p + i * h) w (j * g))))) in
    eq_of_mul-eq-mul_left r (round-some w h g some d) _ _ (sym along ∙ swapped ∙ across)

-- A round meets just the ticks that are p % g more than a multiple of g.
pub round-class :
    (f : ℕ → ℕ) (w h g p : ℕ) → 0 < w → Gcd w h g → p < w → strips f w h (w / g) p ≡ sum (λ j. f (p % g + j * g)) (w / g)
unfolding strips
round-class f w h g p some d inside =
    let r = w / g in
    let here : (p % g + p / g * g) % w ≡ p = ap (λ x. x % w) (mod-add-div' p g) ∙ mod-eq_of_lt inside in
    round-alike f w h g p some d ∙ ap (strips f w g r) (sym here) ∙ round-turned f w g r (p % g) (p / g) some (whole-home d)
    ∙ sum-cong _ _ r (λ j few.
    let most = rw (whole d) at (mul-le-mul_right g few) in
    ap f (mod-eq_of_lt (omega (arith, most, suc-mul j g, mod-lt p (gcd-some d some)))))
