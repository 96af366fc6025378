-- Laws of strips along a wheel: counts of a and of b strips make the count of a + b, and a count is at most its strips.
--
-- In order: one strip; strips in two parts; a step back; whole turns; alike and bounded; strips along a map. Assumes nothing.
use mathlib.Core.Path.{◌≡◌, refl, sym, ap, ◌∙◌}
use mathlib.Core.List.{List}
use Prim.Native.Nat.{ℕ, zero, suc, ◌+◌, ◌*◌, ◌/◌, ◌%◌, ◌≤◌, ◌<◌, zero-le}
use native.Mathlib.Nat.{add-zero, zero-add, zero-mul, one-mul, add-mul, add_comm, add_assoc, mod-lt, mod-eq_of_lt}
use native.Mathlib.Nat.{mod-add-mod, mul-add, mul_left_comm, div-add-mod, add-mul-mod_self_left}
use native.Mathlib.Numerals.{add-one}
use native.Mathlib.Omega.{arith}
use lib.ListN.{length, get_or}
use Rattle.rules.specs.Sums.{Subset, sum}
use Rattle.rules.proofs.Sums.{sum-cong, sum-split, sum-longer, largest-same}
use Rattle.maps.specs.Maps.{Drawn, strips, met, fallen, Top}

-- ---- one strip

pub strips-one : (f : ℕ → ℕ) (w h t : ℕ) → t < w → strips f w h 1 t ≡ f t
unfolding strips sum
strips-one f w h t l = zero-add _ ∙ ap f (rw (zero-mul, add-zero) (mod-eq_of_lt l))

-- ---- strips in two parts

pub strips-add :
    (f : ℕ → ℕ) (w h a b t : ℕ) → strips f w h (a + b) t ≡ strips f w h a t + strips f w h b ((t + a * h) % w)
unfolding strips
strips-add f w h a b t =
    let later : sum (λ i. f ((t + (a + i) * h) % w)) b ≡ sum (λ i. f (((t + a * h) % w + i * h) % w)) b =
    sum-cong _ _ b (λ i l. ap f (rw (add-mul, mod-add-mod, add_assoc))) in
    sum-split (λ i. f ((t + i * h) % w)) a b ∙ ap (λ z. sum (λ i. f ((t + i * h) % w)) a + z) later

pub strips-more : (f : ℕ → ℕ) (w h n t : ℕ) → strips f w h (n + 1) t ≡ strips f w h n t + f ((t + n * h) % w)
unfolding strips sum
strips-more f w h n t = rw add-one refl

pub strips-longer : (f : ℕ → ℕ) (w h a b t : ℕ) → a ≤ b → strips f w h a t ≤ strips f w h b t
unfolding strips
strips-longer f w h a b t few = sum-longer (λ i. f ((t + i * h) % w)) a b few

-- ---- a step back

-- One strip more in front: p' is a step before p.
module _ (f : ℕ → ℕ) (w h n : ℕ) {p p' : ℕ} (inside : p' < w) (back : p ≡ (p' + h) % w) where
  pub strips-front : strips f w h (n + 1) p' ≡ f p' + strips f w h n p
  strips-front =
      let rest : strips f w h n ((p' + 1 * h) % w) ≡ strips f w h n p = ap (strips f w h n) (rw one-mul (sym back)) in
      let both : strips f w h (1 + n) p' ≡ strips f w h (n + 1) p' = ap (λ i. strips f w h i p') (add_comm 1 n) in
      omega (arith, strips-add f w h 1 n p', strips-one f w h p' inside)

  -- A strip comes in at p', and the one at q' is taken off.
  pub strips-back : {q' : ℕ} → q' ≡ (p' + n * h) % w → strips f w h n p + f p' ≡ strips f w h n p' + f q'
  strips-back last = omega (arith, strips-front, strips-more f w h n p', ap f last)

-- ---- whole turns

-- After w strips a place comes back.
strips-home : (f : ℕ → ℕ) (w h n t : ℕ) → strips f w h n ((t + w * h) % w) ≡ strips f w h n t
unfolding strips
strips-home f w h n t =
    sum-cong _ _ n (λ i l.
    let e : t + w * h + i * h ≡ t + i * h + w * h = omega arith in
    ap f (mod-add-mod (t + w * h) w (i * h) ∙ ap (λ x. x % w) e ∙ add-mul-mod_self_left (t + i * h) w h))

pub strips-rounds : (f : ℕ → ℕ) (w h n r t : ℕ) → strips f w h (n * w + r) t ≡ n * strips f w h w t + strips f w h r t
strips-rounds f w h zero r t = rw (zero-mul, zero-mul, zero-add, zero-add) refl
strips-rounds f w h (suc n) r t =
    let turn = strips f w h w t in
    let e : suc n * w + r ≡ w + (n * w + r) = omega (arith, add-mul n 1 w, one-mul w) in
    let rest : strips f w h (n * w + r) ((t + w * h) % w) ≡ n * turn + strips f w h r t =
    strips-home f w h (n * w + r) t ∙ strips-rounds f w h n r t in
    rw e (strips-add f w h w (n * w + r) t ∙ omega (arith, rest, add-mul n 1 turn, one-mul turn))

-- ---- alike and bounded

pub strips-cong :
    (f g : ℕ → ℕ) (w h n t : ℕ) → 0 < w → ((a : ℕ) → a < w → f a ≡ g a) → strips f w h n t ≡ strips g w h n t
unfolding strips
strips-cong f g w h n t some same = sum-cong _ _ n (λ i l. same ((t + i * h) % w) (mod-lt (t + i * h) some))

-- Strips in steps of h are strips in steps of what h leaves beside whole turns.
pub strips-turns : (f : ℕ → ℕ) (w h n t : ℕ) → strips f w (h % w) n t ≡ strips f w h n t
unfolding strips
strips-turns f w h n t = sum-cong _ _ n (λ i l. ap f (same i))
  where
    same : (i : ℕ) → (t + i * (h % w)) % w ≡ (t + i * h) % w
    same i =
        let e : t + i * h ≡ t + i * (h % w) + w * (i * (h / w)) =
        omega (arith, mul-add i (w * (h / w)) (h % w), mul_left_comm i w (h / w), ap (λ x. i * x) (div-add-mod h w)) in
        sym (ap (λ y. y % w) e ∙ add-mul-mod_self_left (t + i * (h % w)) w (i * (h / w)))

pub strips-most : (f : ℕ → ℕ) (w h n t : ℕ) → ((a : ℕ) → f a ≤ 1) → strips f w h n t ≤ n
unfolding strips sum
strips-most f w h zero t small = zero-le
strips-most f w h (suc n) t small =
    let z = strips-most f w h n t small in
    let y = small ((t + n * h) % w) in
    omega arith

-- ---- strips along a map

pub fallen-none : (m : List ℕ) (h p : ℕ) → fallen m h 0 p ≡ 0
unfolding fallen strips sum
fallen-none m h p = refl

pub fallen-more : (m : List ℕ) (h i p : ℕ) → fallen m h (i + 1) p ≡ fallen m h i p + get_or m ((p + i * h) % length m) 0
unfolding fallen
fallen-more m h i p = strips-more (λ a. get_or m a 0) (length m) h i p

pub fallen-most : (m : List ℕ) (h k p : ℕ) → ((a : ℕ) → get_or m a 0 ≤ 1) → fallen m h k p ≤ k
unfolding fallen
fallen-most m h k p bits = strips-most (λ a. get_or m a 0) (length m) h k p bits

pub met-drawn :
    (m : List ℕ) (z : Subset) → Drawn m z → 0 < length m → (h n x : ℕ) → fallen m h n x ≡ met (length m) z h n x
unfolding fallen met
met-drawn m z drawn some h n x = strips-cong _ _ (length m) h n x some drawn.at

-- Strips along a map in steps of h are strips in steps of what h leaves beside whole turns.
pub fallen-turns : (m : List ℕ) (h n p : ℕ) → fallen m (h % length m) n p ≡ fallen m h n p
unfolding fallen
fallen-turns m h n p = strips-turns (λ a. get_or m a 0) (length m) h n p

pub top-turns : (m : List ℕ) (h k c t : ℕ) → Top m (h % length m) k c t → Top m h k c t
top-turns m h k c t = largest-same (λ i _. fallen-turns m h k i)
