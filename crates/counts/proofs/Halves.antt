-- Supply and margin at half ticks of the wheel. Assumes nothing.
use mathlib.Core.Path.{◌≡◌, sym, ap, ◌∙◌}
use mathlib.Core.List.{List}
use Prim.Native.Nat.{ℕ, ◌+◌, ◌*◌, ◌/◌, ◌%◌}
use native.Mathlib.Omega.{arith}
use lib.IntN.{sub_ℕ}
use Rattle.limits.specs.Limits.{asked}
use Rattle.limits.specs.declared.Task.{Task}
use Rattle.rules.specs.Sums.{Subset}
use Rattle.rules.specs.Supply.{supply, margin}
use Rattle.rules.proofs.Straight.{straight, supply-tick}
use Rattle.rules.proofs.Step.{supply-mod}
use Rattle.counts.specs.Counts.{Counted}
use Rattle.counts.proofs.Windows.{Window}

-- ---- supply

abbrev pub Half : List ℕ → ℕ → ℕ → ℕ → ℕ → Type 0
Half l w d x s = Counted l w (2 * d) (λ u. supply 2 u d x) s

pub half-even : (l : List ℕ) (w d x s : ℕ) → Window l w d (x / 2) s → x % 2 ≡ 0 → Half l w d x (s + s)
half-even l w d x s here even = (
  omega (arith, here.0),
  λ u laid.
      let twice : s + s ≡ 2 * supply 1 u d (x / 2) = omega (arith, here.1 u laid) in
      let whole : 2 * (x / 2) ≡ x = omega arith in
      twice ∙ sym (supply-tick 2 u d (x / 2) (omega arith)) ∙ ap (supply 2 u d) whole,
)

pub half-odd :
    (l : List ℕ) (w d x s s' : ℕ) → Window l w d (x / 2) s → Window l w d ((x / 2 + 1) % w) s' → (x % 2 ≡ 0 → ⊥)
    → Half l w d x (s + s')
half-odd l w d x s s' here next odd = (
  omega (arith, here.0, next.0),
  λ u laid.
      let both : s + s' ≡ 1 * supply 1 u d (x / 2) + 1 * supply 1 u d (x / 2 + 1) =
      omega (arith, here.1 u laid, next.1 u laid ∙ supply-mod w u laid.wheel d (x / 2 + 1)) in
      let whole : 2 * (x / 2) + 1 ≡ x = omega arith in
      both ∙ sym (straight u d (x / 2) 1 1 (omega arith)) ∙ ap (supply 2 u d) whole,
)

-- ---- margin

pub margin-at : (u : Subset) (t : Task) (x s : ℕ) → s ≡ supply 2 u t.d x → sub_ℕ s (2 * t.e) ≡ margin 2 u (asked t) x
unfolding margin
margin-at u t x s e = ap (λ n. sub_ℕ n (2 * t.e)) e
