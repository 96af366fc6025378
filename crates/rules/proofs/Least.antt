-- The least margin: the laws LeastExists, LeastUnique, LeastTells, NeedLowers and MayGrow.
--
-- The need plays no part in the supply, so the least margin is the lowest supply less the need. Between ticks supply is straight: it is lowest at
-- a whole tick. In order: the lowest of some numbers; the lowest supply; from it to the least margin and back; the laws. Assumes nothing.
use mathlib.Core.Path.{◌≡◌, refl, sym, ap, ◌∙◌}
use mathlib.Core.Logic.{⊎_elim}
use mathlib.Core.Bool.{true}
use Prim.Native.Nat.{ℕ, zero, suc, ◌+◌, ◌-◌, ◌*◌, ◌/◌, ◌%◌, ◌≤◌, ◌<◌, min}
use native.Mathlib.Nat.{add-mul, mul-le-mul_left, mod-lt, div-add-mod, le_refl}
use native.Mathlib.Omega.{arith}
use lib.IntN.{ℤ, pos, sub_ℕ, ◌*ℤ◌}
use lib.Signed.{≤ℤ_refl}
use borrow.Author.Tests.{ltb-false, lt-ltb, le-ltb}
use Rattle.rules.specs.Sums.{Subset, Lowest}
use Rattle.rules.specs.Supply.{Task, supply, margin, dropped}
use Rattle.rules.specs.Worst.{Wheel}
use Rattle.rules.specs.Least.{Least, grown, Painted}
use Rattle.rules.specs.Laws.{LeastExists, LeastUnique, LeastTells, NeedLowers, MayGrow}
use Rattle.rules.proofs.Sums.{le-or-lt}
use Rattle.rules.proofs.Signed.{sub-le, le-sub, sub_same, sub-zero, sub-times, sub-minus}
use Rattle.rules.proofs.Straight.{straight, supply-tick}
use Rattle.rules.proofs.Step.{dropped-ltb, supply-mod}

-- ---- the lowest of some numbers

-- Beyond a no value up to a + m is below both ends.
pub lowest-on :
    (f : ℕ → ℕ) (a m s e : ℕ) → Lowest f a s → f (a + m) ≡ e → ((x : ℕ) → x ≤ m → min (f a) e ≤ f (a + x)) → Lowest f (a + m) (min s e)
lowest-on f a m s e h end between =
    ⊎_elim
    (λ (l : s ≤ e). record { bound = bound; place = h.place; inside = omega (arith, h.inside); hit = omega (arith, h.hit) })
    (λ (l : e < s). record { bound = bound; place = a + m; inside = omega arith; hit = omega arith })
    (le-or-lt s e)
  where
    bound : (x : ℕ) → x ≤ a + m → min s e ≤ f x
    bound x l =
        ⊎_elim
        (λ (i : x ≤ a). omega (arith, h.bound x i))
        (λ (i : a < x).
        let y : a + (x - a) ≡ x = omega arith in
        omega (arith, h.bound a (omega arith), rw y at (between (x - a) (omega arith))))
        (le-or-lt x a)

-- The lowest of f 0 to f n.
unfoldable pub lowest : (ℕ → ℕ) → ℕ → ℕ
lowest f zero = f 0
lowest f (suc n) = min (lowest f n) (f (suc n))

pub lowest-right : (f : ℕ → ℕ) (n : ℕ) → Lowest f n (lowest f n)
unfolding lowest
lowest-right f zero =
    record {
      bound = λ x l. let e : x ≡ 0 = omega arith in rw e (le_refl (f 0));
      place = 0;
      inside = omega arith;
      hit = refl;
    }
lowest-right f (suc n) =
    let more : Lowest f (n + 1) (min (lowest f n) (f (n + 1))) =
    lowest-on f n 1 (lowest f n) (f (n + 1)) (lowest-right f n) refl (λ x l.
    ⊎_elim
    (λ (i : x ≤ 0). let z : n + x ≡ n = omega arith in rw z (omega arith))
    (λ (i : 0 < x). let z : x ≡ 1 = omega arith in rw z (omega arith))
    (le-or-lt x 0)) in
    let e : n + 1 ≡ suc n = omega arith in
    rw e at more

-- ---- the lowest supply

pub record Low (w : ℕ) (u : Subset) (D s : ℕ) : Type 0 where
  pub bound : (q p : ℕ) → 0 < q → q * s ≤ supply q u D p
  pub place : ℕ
  pub inside : place < w
  pub hit : supply 1 u D place ≡ s

module _ (w : ℕ) (u : Subset) (wheel : Wheel w u) (D s : ℕ) (h : Lowest (supply 1 u D) w s) where
  at_tick : (a : ℕ) → s ≤ supply 1 u D a
  at_tick a =
      rw (← supply-mod w u wheel D a) (h.bound (a % w) (omega (arith, mod-lt a wheel.some)))

  between : (q p a m r : ℕ) → p ≡ q * a + r → q ≡ m + r → 0 < m → q * s ≤ supply q u D p
  between q p a m r e e' some =
      let f : m * s ≤ m * supply 1 u D a = mul-le-mul_left m (at_tick a) in
      let g : r * s ≤ r * supply 1 u D (a + 1) = mul-le-mul_left r (at_tick (a + 1)) in
      rw (e, e', straight u D a m r some) (omega (arith, add-mul m r s))

  -- Tick w is tick 0.
  pub low : Low w u D s
  low =
      record {
        bound = λ q p q+.
            let r = mod-lt p q+ in
            between q p (p / q) (q - p % q) (p % q) (sym (div-add-mod p q)) (omega arith) (omega arith);
        place = h.place % w;
        inside = mod-lt h.place wheel.some;
        hit = supply-mod w u wheel D h.place ∙ h.hit;
      }

-- ---- from the lowest supply to the least margin, and back

pub least-of-low : (w : ℕ) (u : Subset) (t : Task) (s : ℕ) → Low w u t.D s → Least w u t (sub_ℕ s t.e)
unfolding margin
least-of-low w u t s h =
    record {
      bound = λ q p q+.
          rw (sub-times q s t.e q+) (sub-le (q * s) (q * t.e) (supply q u t.D p) (q * t.e) (omega (arith, h.bound q p q+)));
      place = h.place;
      inside = h.inside;
      hit = sub_same (supply 1 u t.D h.place) (1 * t.e) s t.e (omega (arith, h.hit));
    }

-- At a tick half ticks count everything twice.
pub margin-tick : (u : Subset) (t : Task) (a : ℕ) → margin 2 u t (2 * a) ≡ (pos 2 *ℤ margin 1 u t a)
unfolding margin
margin-tick u t a =
    sub_same (supply 2 u t.D (2 * a)) (2 * t.e) (2 * supply 1 u t.D a) (2 * (1 * t.e)) (omega (arith, supply-tick 2 u t.D a (omega arith)))
    ∙ sym (sub-times 2 (supply 1 u t.D a) (1 * t.e) (omega arith))

pub record LowOf (w : ℕ) (u : Subset) (t : Task) (l : ℤ) : Type 0 where
  pub supplied : ℕ
  pub low : Low w u t.D supplied
  pub is : l ≡ sub_ℕ supplied t.e

pub low-of-least : (w : ℕ) (u : Subset) (t : Task) (l : ℤ) → Least w u t l → LowOf w u t l
unfolding margin
low-of-least w u t l h =
    let s : ℕ = supply 1 u t.D h.place in
    let is : l ≡ sub_ℕ s t.e = sym h.hit ∙ sub_same s (1 * t.e) s t.e (omega arith) in
    record {
      supplied = s;
      low = record {
        bound = λ q p q+.
            let le = rw (is, sub-times q s t.e q+) at (h.bound q p q+) in
            omega (arith, le-sub (q * s) (q * t.e) (supply q u t.D p) (q * t.e) le);
        place = h.place;
        inside = h.inside;
        hit = refl;
      };
      is = is;
    }

-- ---- the laws

pub least-of-ticks :
    (w : ℕ) (u : Subset) → Wheel w u → (t : Task) (s : ℕ) → Lowest (supply 1 u t.D) w s → Least w u t (sub_ℕ s t.e)
least-of-ticks w u wheel t s h = least-of-low w u t s (low w u wheel t.D s h)

pub least-lowest : (w : ℕ) (u : Subset) → Wheel w u → (t : Task) → Least w u t (sub_ℕ (lowest (supply 1 u t.D) w) t.e)
least-lowest w u wheel t = least-of-ticks w u wheel t _ (lowest-right (supply 1 u t.D) w)

pub least-exists : LeastExists
least-exists w u wheel t = (_, least-lowest w u wheel t)

low_same : (w : ℕ) (u : Subset) (D s s' : ℕ) → Low w u D s → Low w u D s' → s ≡ s'
low_same w u D s s' a b =
    let low : 1 * s ≤ s' = rw b.hit at (a.bound 1 b.place (omega arith)) in
    let high : 1 * s' ≤ s = rw a.hit at (b.bound 1 a.place (omega arith)) in
    omega arith

pub least-unique : LeastUnique
least-unique w u t l l' a b =
    let x = low-of-least w u t l a in
    let y = low-of-least w u t l' b in
    x.is ∙ ap (λ s. sub_ℕ s t.e) (low_same w u t.D _ _ x.low y.low) ∙ sym y.is

-- Where the need is no more than the lowest supply nothing drops, and where it is more the strip with that supply does.
module _ (w : ℕ) (u : Subset) (t : Task) (s : ℕ) (h : Low w u t.D s) where
  low-painted : t.e ≤ s → Painted u t
  unfolding Painted
  low-painted l q p q+ =
      let f : q * t.e ≤ q * s = mul-le-mul_left q l in
      dropped-ltb q u t p ∙ le-ltb (supply q u t.D p) (q * t.e) (omega (arith, h.bound q p q+))

  low-dropped : s < t.e → dropped 1 u t h.place ≡ true
  low-dropped l =
      dropped-ltb 1 u t h.place ∙ lt-ltb (supply 1 u t.D h.place) (1 * t.e) (omega (arith, h.hit))

  painted-low : Painted u t → t.e ≤ s
  unfolding Painted
  painted-low all =
      let e = sym (dropped-ltb 1 u t h.place) ∙ all 1 h.place (omega arith) in
      omega (arith, ltb-false (supply 1 u t.D h.place) (1 * t.e) e, h.hit)

pub least-tells : LeastTells
least-tells w u t l h =
    let x = low-of-least w u t l h in (
      λ some. low-painted w u t _ x.low (omega (arith, le-sub 0 0 x.supplied t.e (rw x.is at some))),
      λ all. rw x.is (sub-le 0 0 x.supplied t.e (omega (arith, painted-low w u t _ x.low all))),
    )

pub need-lowers : NeedLowers
unfolding grown
need-lowers w u t l h n =
    let x = low-of-least w u t l h in
    rw (x.is, sub-minus x.supplied t.e n) (least-of-low w u (grown n t) x.supplied x.low)

pub may-grow : MayGrow
unfolding grown
may-grow w u t g h =
    let x = low-of-least w u t (pos g) h in
    let e : sub_ℕ g 0 ≡ sub_ℕ x.supplied t.e = sub-zero g ∙ x.is in
    let up = le-sub g 0 x.supplied t.e (rw e (≤ℤ_refl _)) in
    let down = le-sub x.supplied t.e g 0 (rw e (≤ℤ_refl _)) in (
      low-painted w u (grown g t) x.supplied x.low (omega arith),
      (x.low.place, x.low.inside, low-dropped w u (grown (g + 1) t) x.supplied x.low (omega arith)),
    )
