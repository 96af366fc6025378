-- The counts from all ticks of a wheel together: each strip meets each late tick once, so they are k times the late ticks, and where that is more
-- than an allowance for each one of them passes it.
--
-- In order: sums round a wheel; all counts together; one that passes. Assumes nothing.
use mathlib.Core.Path.{◌≡◌, refl, sym, ap, ◌∙◌}
use mathlib.Core.Logic.{⊎_elim}
use mathlib.Core.List.{List}
use Prim.Native.Nat.{ℕ, zero, suc, ◌+◌, ◌*◌, ◌%◌, ◌<◌}
use native.Mathlib.Nat.{add-zero, zero-mul, mul-zero, mul_comm, suc-mul, mod-eq_of_lt, add-mod_left}
use native.Mathlib.Numerals.{add-one}
use native.Mathlib.Omega.{arith}
use lib.Dec.{ltb}
use borrow.Author.Tests.{ltb-true, ltb-false}
use Rattle.rules.specs.Sums.{Subset, bit, sum, number}
use Rattle.rules.proofs.Sums.{sum-cong, sum_mono, sum-const, sum_both, Found, found-or-none}
use Rattle.runs.specs.Runs.{Laid}
use Rattle.maps.specs.Maps.{strips, met}
use Rattle.excess.specs.Excess.{Crowds, Above}

-- ---- sums round a wheel

sum-next : (f : ℕ → ℕ) (n : ℕ) → sum (λ i. f (i + 1)) n + f 0 ≡ sum f n + f n
unfolding sum
sum-next f zero = refl
sum-next f (suc n) = omega (arith, sum-next f n, ap f (add-one n))

-- From whichever tick on, a turn takes in every tick once.
sum-turned : (f : ℕ → ℕ) (w c : ℕ) → 0 < w → sum (λ p. f ((p + c) % w)) w ≡ sum f w
sum-turned f w zero some = sum-cong _ _ w (λ p inside. ap f (rw add-zero (mod-eq_of_lt inside)))
sum-turned f w (suc c) some =
    let g : ℕ → ℕ = λ p. f ((p + c) % w) in
    let on : sum (λ p. f ((p + suc c) % w)) w ≡ sum (λ p. g (p + 1)) w =
    sum-cong _ _ w (λ p _. let e : p + suc c ≡ p + 1 + c = omega arith in ap (λ y. f (y % w)) e) in
    let home : g w ≡ g 0 = ap f (add-mod_left w c ∙ ap (λ y. y % w) (omega arith)) in
    omega (arith, sum-next g w, sum-turned f w c some)

-- ---- all counts together

total : (z : Subset) (w h k : ℕ) → 0 < w → sum (met w z h k) w ≡ k * number z w
unfolding met strips number sum
total z w h zero some = sum-const _ 0 w (λ i _. refl) ∙ mul-zero w ∙ sym (zero-mul _)
total z w h (suc k) some =
    let more = sum_both (met w z h k) (λ p. bit (z ((p + k * h) % w))) w in
    rw suc-mul (omega (arith, total z w h k some, sum-turned (λ a. bit (z a)) w (k * h) some))

-- ---- one that passes

pub crowded : {l : List ℕ} {w : ℕ} (h k a : ℕ) → Crowds l w k a → (z : Subset) → Laid l w z → Above w z h k a
unfolding Crowds
crowded {w = w} h k a crowds z laid =
    ⊎_elim
    (λ (f : Found (λ p. ltb a (met w z h k p)) w).
    record { place = f.place; inside = f.below; passes = ltb-true _ _ f.passes })
    (λ none.
    let most = sum_mono (met w z h k) (λ _. a) w (λ p inside. ltb-false _ _ (none p inside)) in
    absurd (omega (arith, crowds z laid, total z w h k laid.wheel.some, sum-const (λ _. a) a w (λ _ _. refl), mul_comm w a)))
    (found-or-none _ w)
