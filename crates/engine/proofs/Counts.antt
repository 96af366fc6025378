-- Laws of the counts: one strip's are the map, those of a and of b strips make those of a + b, and none passes its strips.
--
-- In order: one strip; strips in two parts; what fits. Assumes nothing.
use mathlib.Core.Path.{◌≡◌, refl, sym, ap, ◌∙◌}
use mathlib.Core.Logic.{⊎_elim}
use mathlib.Core.List.{List}
use Prim.Native.Nat.{ℕ, ◌+◌, ◌*◌, ◌%◌, ◌≤◌, ◌<◌}
use native.Mathlib.Nat.{one-mul, add-mul, mod-lt, mod-eq_of_lt, mod-add-mod, add-mod-mod}
use native.Mathlib.Omega.{arith}
use lib.ListN.{length, get_or, get_or-eq_default}
use Rattle.maps.specs.Maps.{fallen}
use Rattle.maps.proofs.Strips.{strips-one, strips-add, strips-most}
use Rattle.engine.specs.Turn.{Turning, Turned}
use Rattle.engine.specs.Counts.{Wheeled, Counted, AsLong}
use Rattle.rules.proofs.Sums.{le-or-lt}

-- ---- one strip

pub counted-one : {z : List ℕ} {h : ℕ} → h < length z → Counted z h 1 z h
unfolding fallen
counted-one {z} {h} l =
    record {
      as_long = refl;
      at = λ t s. sym (strips-one (λ a. get_or z a 0) (length z) h t s);
      round = sym (rw one-mul (mod-eq_of_lt l));
    }

-- ---- strips in two parts

-- Behind the a strips that x counts y counts b more.
pub counted-add :
    {z x y e : List ℕ} {h a b n s r q : ℕ} → n ≡ a + b → Wheeled z h → Counted z h a x s → Counted z h b y r
    → length e ≡ length z → Turned e x y s r q → Counted z h n e q
unfolding fallen
counted-add {z} {x} {y} {e} {h} {a} {b} {n} {s} total wheel cx cy long turned =
    let some : 0 < length z = omega (arith, wheel.step) in
    record {
      as_long = long;
      at = λ t l.
          let m : (t + s) % length x ≡ (t + a * h) % length z = rw (cx.as_long, cx.round, add-mod-mod) in
          let here : get_or e t 0 ≡ get_or x t 0 + get_or y ((t + a * h) % length z) 0 =
          turned.at t (omega (arith, cx.as_long)) ∙ ap (λ p. get_or x t 0 + get_or y p 0) m in
          here
          ∙ rw (total, cx.at t l, cy.at ((t + a * h) % length z) (mod-lt (t + a * h) some))
          (sym (strips-add (λ i. get_or z i 0) (length z) h a b t));
      round = turned.on ∙ rw (cx.as_long, cx.round, cy.round, mod-add-mod, add-mod-mod, total, add-mul);
    }

-- ---- what fits

pub swapped : {z x y : List ℕ} → AsLong z x y → AsLong z y x
swapped both = record { one = both.other; other = both.one }

counted-most : {z x : List ℕ} {h n s : ℕ} → Wheeled z h → Counted z h n x s → (i : ℕ) → get_or x i 0 ≤ n
unfolding fallen
counted-most {z} {x} {h} {n} wheel c i =
    ⊎_elim
    (λ (g : length x ≤ i). let e : get_or x i 0 ≡ 0 = get_or-eq_default x 0 g in omega arith)
    (λ (g : i < length x).
    let e = c.at i (omega (arith, c.as_long)) in
    rw e (strips-most (λ a. get_or z a 0) (length z) h n i wheel.bits))
    (le-or-lt (length x) i)

counted-less : {z x : List ℕ} {h n s : ℕ} → Wheeled z h → Counted z h n x s → s < length z
counted-less wheel c = rw c.round (mod-lt _ (omega (arith, wheel.step)))

-- What a turn asks for that is to hold the counts of a + b strips, each below m.
pub turning :
    {z x y e : List ℕ} {h a b s r m : ℕ} → Wheeled z h → Counted z h a x s → Counted z h b y r
    → length e ≡ length z → a + b < m → Turning e x y s r m
turning wheel cx cy long l =
    let near = counted-less wheel cx in
    let far = counted-less wheel cy in
    record {
      written = long ∙ sym cx.as_long;
      read = cy.as_long ∙ sym cx.as_long;
      near = omega (arith, cx.as_long);
      far = omega (arith, cx.as_long);
      most = omega (arith, cx.as_long, wheel.most);
      fit = record {
        small = λ i j. let p = counted-most wheel cx i in let q = counted-most wheel cy j in omega arith;
      };
    }
