-- Drawing runs into a map, one run a turn: out of the set and in it by turns. Assumes nothing.
use mathlib.Core.Path.{◌≡◌, refl, sym, ap, subst, ◌∙◌}
use mathlib.Core.List.{List}
use Prim.Native.Nat.{ℕ, suc, ◌+◌, ◌-◌, ◌%◌, ◌≤◌}
use native.Mathlib.Numerals.{add-one}
use native.Mathlib.Omega.{arith}
use lib.ListN.{length, take, drop, replicate, length-drop}
use lib.Seq.{length-take-le}
use borrow.Rule.Slice.PartMut.{put_mid}
use Rattle.std.proofs.lemmas.Grind.{common_steps}
use Rattle.rules.specs.Sums.{Subset}
use Rattle.runs.specs.Runs.{edge, Laid, Runs}
use Rattle.runs.proofs.Edges.{edge-past}
use Rattle.maps.specs.Maps.{Drawn, Stretched}
use Rattle.maps.proofs.Draws.{Upto, edge-most, run-drawn}

-- The runs before this one are drawn, up to where it starts.
pub record Marking (l m₀ m : List ℕ) (run at : ℕ) : Type 0 where
  pub some : Runs l (length m₀)
  pub long : length m ≡ length m₀
  pub few : run ≤ length l + 1
  pub here : at ≡ edge l (length m₀) run
  pub done : (z : Subset) → Laid l (length m₀) z → Upto m at z

pub mark-start : {l m : List ℕ} {w : ℕ} → Runs l w → length m ≡ w → Marking l m m 0 0
unfolding edge
mark-start {l} runs wheel =
    record {
      some = subst (Runs l) (sym wheel) runs;
      long = refl;
      few = omega arith;
      here = refl;
      done = λ z laid. record { drawn = λ a less. absurd (omega arith) };
    }

-- A part of a map that has one value all along.
stretched :
    (m part : List ℕ) (from to v : ℕ) → from ≤ to → to ≤ length m → part ≡ replicate (to - from) v
    → Stretched m (put_mid from (to - from) m part) from to v
stretched m part from to v low high same =
    record {
      long = grind (arith, common_steps);
      kept = λ a less. grind (arith, common_steps);
      filled = λ a above less. grind (arith, common_steps);
    }

-- Where run `run` is drawn.
module _
    {l m₀ m : List ℕ} {run at w end : ℕ} (d : Marking l m₀ m run at) (wheel : length m₀ ≡ w) (e : end ≡ edge l w (suc run)) where
  here : end ≡ edge l (length m₀) (suc run)
  here = rw wheel e

  pub mark-from : at ≤ end
  unfolding Runs
  mark-from = omega (arith, d.some.1.lay.order run, d.here, here)

  pub mark-to : end ≤ length m
  mark-to = omega (arith, edge-most l (length m₀) d.some (suc run), d.long, here)

  pub mark-next :
      {part : List ℕ} → run ≤ length l → part ≡ replicate (length (take (end - at) (drop at m))) (run % 2)
      → Marking l m₀ (put_mid at (end - at) m part) (run + 1) end
  mark-next {part} few same =
      let whole : length (take (end - at) (drop at m)) ≡ end - at = length-take-le _ _ (omega (arith, length-drop at m, mark-to)) in
      let s = stretched m part at end (run % 2) mark-from mark-to (same ∙ ap (λ n. replicate n (run % 2)) whole) in
      record {
        some = d.some;
        long = s.long ∙ d.long;
        few = omega arith;
        here = rw add-one here;
        done = λ z laid. run-drawn laid.lay run d.here here s (d.done z laid);
      }

-- Behind the last run the wheel ends.
pub mark-end :
    {l m₀ m : List ℕ} {run at : ℕ} → Marking l m₀ m run at → length l + 1 ≤ run
    → (length m ≡ length m₀) × ((z : Subset) → Laid l (length m₀) z → Drawn m z)
mark-end {l} {m₀} {m} {run} d past =
    let there : edge l (length m₀) run ≡ length m₀ = edge-past l (length m₀) run (omega arith) in (
      d.long,
      λ z laid. record { at = λ a less. (d.done z laid).drawn a (omega (arith, d.here, there, d.long)) },
    )
