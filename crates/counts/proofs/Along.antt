-- The usable ticks below a tick, run by run: a run that isn't usable adds none, one that is adds its length.
--
-- In order: along one run; a count that holds of every set laid out; two runs a step. Assumes nothing.
use mathlib.Core.Path.{◌≡◌, sym, subst, ap, ◌∙◌}
use mathlib.Core.List.{List}
use Prim.Native.Nat.{ℕ, suc, ◌+◌, ◌-◌, ◌*◌, ◌%◌, ◌≤◌}
use native.Mathlib.Numerals.{add-one}
use native.Mathlib.Omega.{arith}
use Rattle.rules.specs.Sums.{Subset, bit, number}
use Rattle.rules.proofs.Sums.{sum-const, number-le, number-longer, number-none, number-split}
use Rattle.runs.specs.Runs.{edge, Lay, Laid, Runs, Ordered}
use Rattle.runs.proofs.Ordered.{runs_in}
use Rattle.counts.specs.Counts.{Counted}

-- ---- along one run

pub run-number :
    (l : List ℕ) (w : ℕ) (u : Subset) → Lay l w u → (i x : ℕ) → edge l w i ≤ x → x ≤ edge l w (suc i)
    → number u x ≡ number u (edge l w i) + (x - edge l w i) * (i % 2)
unfolding number
run-number l w u lay i x low high =
    let far : x ≡ edge l w i + (x - edge l w i) = omega arith in
    ap (number u) far
    ∙ number-split u (edge l w i) (x - edge l w i)
    ∙ ap (λ n. number u (edge l w i) + n)
    (sum-const (λ j. bit (u (edge l w i + j))) (i % 2) (x - edge l w i) (λ j less.
    lay.alike i (edge l w i + j) (omega arith) (omega arith)))

-- ---- a count that holds of every set laid out

-- One set is enough for the bound.
pub counted :
    (l : List ℕ) (w most s : ℕ) (f : Subset → ℕ) → Ordered l w → ((u : Subset) → f u ≤ most) → ((u : Subset) → Laid l w u → s ≡ f u)
    → Counted l w most f s
unfolding Runs
counted l w most s f ordered few all =
    let (u, laid) : Runs l w = runs_in ordered in (omega (arith, all u laid, few u), all)

-- In every set that l lays out, s ticks below x are usable.
abbrev pub Below : List ℕ → ℕ → ℕ → ℕ → Type 0
Below l w x s = Counted l w x (λ u. number u x) s

pub below_all : (l : List ℕ) (w x s : ℕ) → Ordered l w → ((u : Subset) → Laid l w u → s ≡ number u x) → Below l w x s
below_all l w x s ordered all = counted l w x s (λ u. number u x) ordered (λ u. number-le u x) all

pub below-rises : (l : List ℕ) (w x y s t : ℕ) → Ordered l w → x ≤ y → Below l w x s → Below l w y t → s ≤ t
unfolding Runs
below-rises l w x y s t ordered order p q =
    let (u, laid) : Runs l w = runs_in ordered in omega (arith, p.1 u laid, q.1 u laid, number-longer u x y order)

-- ---- two runs a step

-- s ticks below the start of run i, which isn't usable and starts at or before x.
pub record Passed (l : List ℕ) (w x s i : ℕ) : Type 0 where
  pub out : i % 2 ≡ 0
  pub came : edge l w i ≤ x
  pub counted : Below l w (edge l w i) s

pub passed_none : (l : List ℕ) (w x : ℕ) → Passed l w x 0 0
unfolding edge
passed_none l w x = record { out = omega arith; came = omega arith; counted = (omega arith, λ u laid. sym (number-none u)) }

module _ (l : List ℕ) (w x s i : ℕ) (ordered : Ordered l w) (p : Passed l w x s i) where
  -- x lies in run i.
  pub passed-out : x ≤ edge l w (suc i) → Below l w x s
  passed-out high =
      below_all l w x s ordered (λ u laid.
      omega (arith, p.counted.1 u laid, run-number l w u laid.lay i x p.came high, ap (λ n. (x - edge l w i) * n) p.out))

  -- The ends of run i and of the run behind it, which is usable.
  module _ (from to : ℕ) (e : from ≡ edge l w (suc i)) (f : to ≡ edge l w (suc (i + 1))) where
    second : to ≡ edge l w (suc (suc i))
    second = f ∙ ap (λ n. edge l w (suc n)) (add-one i)

    pub passed-order : from ≤ to
    passed-order = omega (arith, second, ordered.order (suc i))

    pub passed-in : (y : ℕ) → from ≤ y → y ≤ to → Below l w y (s + (y - from))
    passed-in y low high =
        let odd : suc i % 2 ≡ 1 = omega (arith, p.out) in
        below_all l w y (s + (y - from)) ordered (λ u laid.
        omega (
          arith,
          p.counted.1 u laid,
          run-number l w u laid.lay i (edge l w (suc i)) (ordered.order i) (omega arith),
          ap (λ n. (edge l w (suc i) - edge l w i) * n) p.out,
          run-number l w u laid.lay (suc i) y (omega arith) (omega (arith, second)),
          ap (λ n. (y - edge l w (suc i)) * n) odd,
        ))

    pub passed-both : to ≤ x → Passed l w x (s + (to - from)) (i + 2)
    passed-both high =
        let next : to ≡ edge l w (i + 2) = second ∙ ap (edge l w) (omega arith) in
        record {
          out = omega (arith, p.out);
          came = omega arith;
          counted = subst (λ n. Below l w n (s + (to - from))) next (passed-in to passed-order (omega arith));
        }
