-- Laws of the greatest common divisor.
--
-- In order: the steps of Euclid's algorithm; its bounds; numbers that are the same beside whole turns; the divisor as steps along a wheel.
-- Assumes nothing.
use mathlib.Core.Path.{◌≡◌, sym, ap, ◌∙◌}
use Prim.Native.Nat.{ℕ, zero, suc, ◌+◌, ◌-◌, ◌*◌, ◌/◌, ◌%◌, ◌≤◌, ◌<◌}
use native.Mathlib.Nat.{dvd_refl, dvd-zero, dvd-mod_iff, le_of_dvd, pos_of_dvd_of_pos, dvd_antisymm}
use native.Mathlib.Nat.{mul_comm, mul_assoc, mul_left_comm, zero-mul, suc-mul, mul-add, add-mul, one-mul, zero-mod, mod_self, mod-lt}
use native.Mathlib.Nat.{div-add-mod, add-mod, add-mul-mod_self_left}
use native.Mathlib.Omega.{arith}
use Rattle.divisor.specs.Divisor.{Gcd}

-- ---- steps

pub gcd-zero : (a : ℕ) → Gcd a 0 a
gcd-zero a = record { left = dvd_refl a; right = dvd-zero a; greatest = λ d p q. p }

pub gcd-step : {a b g : ℕ} → Gcd b (a % b) g → Gcd a b g
gcd-step {a} {b} {g} d =
    record {
      left = (dvd-mod_iff g d.left).0 d.right;
      right = d.left;
      greatest = λ e p q. d.greatest e q ((dvd-mod_iff e q).1 p);
    }

-- For the proof of `gcd`.
pub ruleset steps = (gcd-zero, gcd-step)

gcd-back : {a b g : ℕ} → Gcd a b g → Gcd b (a % b) g
gcd-back {a} {b} {g} d =
    record {
      left = d.right;
      right = (dvd-mod_iff g d.right).1 d.left;
      greatest = λ e p q. d.greatest e ((dvd-mod_iff e p).0 q) p;
    }

-- ---- bounds

pub gcd-some : {a b g : ℕ} → Gcd a b g → 0 < a → 0 < g
gcd-some d some = pos_of_dvd_of_pos d.left some

pub gcd-most : {a b g : ℕ} → Gcd a b g → 0 < a → g ≤ a
gcd-most d some = le_of_dvd some d.left

-- ---- the same beside whole turns

pub same-turns : (w a b u v : ℕ) → a + w * u ≡ b + w * v → a % w ≡ b % w
same-turns w a b u v e = sym (add-mul-mod_self_left a w u) ∙ ap (λ x. x % w) e ∙ add-mul-mod_self_left b w v

pub same_add : (w a a' b b' : ℕ) → a % w ≡ a' % w → b % w ≡ b' % w → (a + b) % w ≡ (a' + b') % w
same_add w a a' b b' p q = cc (add-mod a b w, add-mod a' b' w)

pub same-times : (w n a b : ℕ) → a % w ≡ b % w → (n * a) % w ≡ (n * b) % w
same-times w zero a b p = simp zero-mul
same-times w (suc n) a b p = simp suc-mul (same_add w _ _ a b (same-times w n a b p) p)

-- ---- steps along a wheel

-- From steps along a wheel of b to steps along a wheel of a: x · a is g beside whole turns of b, and no way at all along a wheel of a, so there g is
-- as many steps of b as the turns that are left over. A step back is a − 1 steps on.
reach_step : (a b g x : ℕ) → 0 < a → (x * (a % b)) % b ≡ g % b → (y : ℕ) × ((y * b) % a ≡ g % a)
reach_step a b g x some p =
    let m = x * (a % b) / b + x * (a / b) in
    let n = g / b in
    let c = a - 1 in
    let turns : b * m ≡ b * (x * (a % b) / b) + x * (b * (a / b)) =
    mul-add b _ _ ∙ ap (λ z. b * (x * (a % b) / b) + z) (mul_left_comm b x (a / b)) in
    let both : x * a ≡ x * (b * (a / b)) + x * (a % b) = ap (λ z. x * z) (sym (div-add-mod a b)) ∙ mul-add x _ _ in
    let ahead : x * a + b * n ≡ g + b * m = omega (arith, turns, both, div-add-mod (x * (a % b)) b, div-add-mod g b) in
    let one : a ≡ c + 1 = omega arith in
    let back : a * (m * b) ≡ c * (m * b) + b * m =
    ap (λ z. z * (m * b)) one ∙ add-mul c 1 (m * b) ∙ ap (λ z. c * (m * b) + z) (one-mul (m * b) ∙ mul_comm m b) in
    let steps : (n + c * m) * b ≡ b * n + c * (m * b) = add-mul n (c * m) b ∙ omega (arith, mul_comm n b, mul_assoc c m b) in
    (n + c * m, same-turns a _ g x (m * b) (omega (arith, ahead, back, steps, mul_comm a x)))

reach-from :
    (a b g : ℕ) → 0 < a → Gcd a b g → (0 < b → (x : ℕ) × ((x * (a % b)) % b ≡ g % b)) → (x : ℕ) × ((x * b) % a ≡ g % a)
reach-from a zero g some d rest =
    let e : g ≡ a = dvd_antisymm d.left (d.greatest a (dvd_refl a) (dvd-zero a)) in
    (0, zero-mod a ∙ sym (ap (λ x. x % a) e ∙ mod_self a))
reach-from a (suc b) g some d rest = let r = rest (omega arith) in reach_step a (suc b) g r.0 some r.1

reach-within : (n a b g : ℕ) → b ≤ n → 0 < a → Gcd a b g → (x : ℕ) × ((x * b) % a ≡ g % a)
reach-within zero a b g few some d = reach-from a b g some d (λ l. absurd (omega arith))
reach-within (suc n) a b g few some d =
    reach-from a b g some d (λ l. let falls = mod-lt a l in reach-within n b (a % b) g (omega arith) l (gcd-back d))

-- Some steps of b go g ticks on along a wheel of a, beside whole turns.
pub reach : (a b g : ℕ) → 0 < a → Gcd a b g → (x : ℕ) × ((x * b) % a ≡ g % a)
reach a b g some d = reach-within b a b g (omega arith) some d
