-- Windows from the usable ticks below a tick: whole turns, and a rest that may run over the wheel's end.
--
-- In order: whole turns; a window of one set; the same of every set laid out. Assumes nothing.
use mathlib.Core.Path.{◌≡◌, ap, ◌∙◌}
use mathlib.Core.List.{List}
use Prim.Native.Nat.{ℕ, ◌+◌, ◌-◌, ◌*◌, ◌/◌, ◌%◌, ◌≤◌}
use native.Mathlib.Nat.{mul_comm, div-add-mod}
use native.Mathlib.Omega.{arith}
use Rattle.rules.specs.Sums.{Subset, number}
use Rattle.rules.specs.Supply.{supply}
use Rattle.rules.specs.Worst.{Wheel}
use Rattle.rules.proofs.Sums.{number-le, number-longer}
use Rattle.rules.proofs.Straight.{windows, supply-ticks}
use Rattle.rules.proofs.Total.{whole-turns}
use Rattle.runs.specs.Runs.{Laid, Ordered}
use Rattle.counts.specs.Counts.{Counted}
use Rattle.counts.proofs.Along.{counted, Below}

-- ---- whole turns

abbrev pub Turned : List ℕ → ℕ → ℕ → ℕ → Type 0
Turned l w d s = Counted l w d (λ u. d / w * number u w) s

-- ---- a window of d ticks from tick a, of one set

pub supply-le : (u : Subset) (d a : ℕ) → supply 1 u d a ≤ d
supply-le u d a = rw supply-ticks (number-le (λ i. u (a + i)) d)

-- The whole turns of a window, and its rest.
pub window-split :
    (w : ℕ) (u : Subset) → Wheel w u → (d a : ℕ) → d / w * number u w + supply 1 u (d % w) a ≡ supply 1 u d a
window-split w u wheel d a =
    let e : a + d ≡ a + d % w + d / w * w = omega (arith, div-add-mod d w, mul_comm w (d / w)) in
    let far : number u (a + d) ≡ number u (a + d % w) + d / w * number u w =
    ap (number u) e ∙ whole-turns w u wheel (d / w) (a + d % w) in
    omega (arith, windows u d a, windows u (d % w) a)

-- A window that runs over the wheel's end.
pub window-over :
    (w : ℕ) (u : Subset) → Wheel w u → (r a : ℕ) → a ≤ w → w ≤ a + r
    → number u w - number u a + number u (a + r - w) ≡ supply 1 u r a
window-over w u wheel r a less over =
    let back : a + r ≡ a + r - w + 1 * w = omega arith in
    let once : number u (a + r) ≡ number u (a + r - w) + 1 * number u w =
    ap (number u) back ∙ whole-turns w u wheel 1 (a + r - w) in
    omega (arith, windows u r a, number-longer u a w less)

-- ---- of every set laid out

abbrev pub Window : List ℕ → ℕ → ℕ → ℕ → ℕ → Type 0
Window l w d a s = Counted l w d (λ u. supply 1 u d a) s

module _ (l : List ℕ) (w : ℕ) (ordered : Ordered l w) where
  window-all : (d a s : ℕ) → ((u : Subset) → Laid l w u → s ≡ supply 1 u d a) → Window l w d a s
  window-all d a s all = counted l w d s (λ u. supply 1 u d a) ordered (λ u. supply-le u d a) all

  pub rest-inside : (a r gone end : ℕ) → Below l w a gone → Below l w (a + r) end → Window l w r a (end - gone)
  rest-inside a r gone end p q =
      window-all r a (end - gone) (λ u laid. omega (arith, p.1 u laid, q.1 u laid, windows u r a))

  pub rest_over :
      (a r full gone end : ℕ) → a ≤ w → w ≤ a + r → Below l w w full → Below l w a gone → Below l w (a + r - w) end
      → Window l w r a (full - gone + end)
  rest_over a r full gone end less over f p q =
      window-all r a (full - gone + end) (λ u laid.
      omega (arith, f.1 u laid, p.1 u laid, q.1 u laid, window-over w u laid.wheel r a less over))

  pub window-whole :
      (d a turns rest : ℕ) → Turned l w d turns → Window l w (d % w) a rest → Window l w d a (turns + rest)
  window-whole d a turns rest p q =
      window-all d a (turns + rest) (λ u laid. omega (arith, p.1 u laid, q.1 u laid, window-split w u laid.wheel d a))
