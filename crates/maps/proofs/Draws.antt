-- Drawing runs into a map, run by run from tick 0 on.
--
-- In order: edges stay on the wheel; a run more. Assumes nothing.
use mathlib.Core.Path.{◌≡◌, refl, sym, ap, ◌∙◌}
use mathlib.Core.Logic.{⊎_elim}
use mathlib.Core.List.{List}
use Prim.Native.Nat.{ℕ, suc, ◌+◌, ◌%◌, ◌≤◌, ◌<◌}
use native.Mathlib.Numerals.{add-one}
use native.Mathlib.Omega.{arith}
use lib.ListN.{length, get_or}
use Rattle.rules.specs.Sums.{Subset, bit}
use Rattle.rules.proofs.Sums.{le-or-lt}
use Rattle.runs.specs.Runs.{edge, Lay, Laid, Runs}
use Rattle.runs.proofs.Edges as edges
use Rattle.runs.proofs.Edges.{edge-read, edge-past}
use Rattle.runs.proofs.Ordered.{runs_ordered}
use Rattle.maps.specs.Maps.{Drawn, Stretched}

-- ---- edges stay on the wheel

pub edge-most : (l : List ℕ) (w : ℕ) → Runs l w → (i : ℕ) → edge l w i ≤ w
edge-most l w runs i = edges.edge-most l w (runs_ordered runs).order i

-- ---- a run more

-- The ticks before `at` are drawn.
pub record Upto (m : List ℕ) (at : ℕ) (z : Subset) : Type 0 where
  pub drawn : (a : ℕ) → a < at → get_or m a 0 ≡ bit (z a)

pub run-drawn :
    {l m m' : List ℕ} {w from to : ℕ} {z : Subset} → Lay l w z → (i : ℕ) → from ≡ edge l w i → to ≡ edge l w (suc i)
    → Stretched m m' from to (i % 2) → Upto m from z → Upto m' to z
run-drawn {from = from} lay i here there s so_far =
    record {
      drawn = λ a less.
          ⊎_elim
          (λ (low : from ≤ a). s.filled a low less ∙ sym (lay.alike i a (omega arith) (omega arith)))
          (λ (before : a < from). s.kept a before ∙ so_far.drawn a before)
          (le-or-lt from a);
    }

-- i runs are drawn, up to place `at`.
pub record Drawing (l : List ℕ) (w : ℕ) (m₀ m : List ℕ) (i at : ℕ) : Type 0 where
  pub long : length m ≡ length m₀
  pub here : at ≡ edge l w i
  pub done : (z : Subset) → Laid l w z → Upto m at z

pub draw-start : (l : List ℕ) (w : ℕ) (m : List ℕ) → Drawing l w m m 0 0
unfolding edge
draw-start l w m =
    record { long = refl; here = refl; done = λ z laid. record { drawn = λ a less. absurd (omega arith) } }

-- Where a run ends is on the wheel.
pub draw-inside :
    {l : List ℕ} {w : ℕ} {m₀ m : List ℕ} {i at end : ℕ} → Drawing l w m₀ m i at → Runs l w → length m₀ ≡ w → i < length l
    → end ≡ get_or l i 0 → end ≤ length m
draw-inside {l} {w} {i = i} d runs wide less there = omega (arith, edge-read l w i less, edge-most l w runs (suc i), d.long)

draw-run :
    {l : List ℕ} {w : ℕ} {m₀ m m' : List ℕ} {i at end : ℕ} → Drawing l w m₀ m i at → end ≡ edge l w (suc i)
    → Stretched m m' at end (i % 2) → Drawing l w m₀ m' (i + 1) end
draw-run {l} {w} {i = i} d there s =
    record {
      long = s.long ∙ d.long;
      here = there ∙ ap (edge l w) (sym (add-one i));
      done = λ z laid. run-drawn laid.lay i d.here there s (d.done z laid);
    }

pub draw-next :
    {l : List ℕ} {w : ℕ} {m₀ m m' : List ℕ} {i at end : ℕ} → Drawing l w m₀ m i at → Stretched m m' at end (i % 2) → i < length l
    → end ≡ get_or l i 0 → Drawing l w m₀ m' (i + 1) end
draw-next {l} {w} {i = i} d s less there = draw-run d (there ∙ edge-read l w i less) s

-- The last run ends at w.
pub draw-end :
    {l : List ℕ} {w : ℕ} {m₀ m m' : List ℕ} {i at : ℕ} → Drawing l w m₀ m i at → length m₀ ≡ w → i ≡ length l
    → Stretched m m' at w (length l % 2) → (length m' ≡ length m₀) × ((z : Subset) → Laid l w z → Drawn m' z)
draw-end {l} {w} {i = i} d wide last s =
    let all = draw-run d (sym (edge-past l w (suc i) (omega arith))) (rw last s) in
    (all.long, λ z laid. record { at = λ a less. (all.done z laid).drawn a (omega (arith, all.long)) })
