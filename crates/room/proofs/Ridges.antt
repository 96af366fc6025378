-- From the largest count half a tick after a tick to the worst count and offset.
--
-- A strip dropped at a tick is dropped half a tick before and after it, so only odd half ticks can be worse than all before them, and half
-- tick 0, before which there is none.
-- In order: the ridge of late runs; no half tick is above it, and offsets; what is found. Assumes nothing.
use mathlib.Core.Path.{◌≡◌, refl, sym, ap, ◌∙◌}
use mathlib.Core.List.{List}
use Prim.Native.Nat.{ℕ, zero, suc, ◌+◌, ◌*◌, ◌/◌, ◌%◌, ◌≤◌, ◌<◌}
use native.Mathlib.Omega.{arith}
use lib.IntN.{ℤ}
use lib.ListN.{length, take}
use lib.Seq.{length-take-le}
use Rattle.rules.specs.Sums.{Subset, Largest}
use Rattle.rules.specs.Supply as rules
use Rattle.rules.specs.Supply.{dropped, drops, count}
use Rattle.rules.specs.Worst.{Wheel, Worst}
use Rattle.rules.proofs.Sums.{by-parity, largest-same}
use Rattle.rules.proofs.Zones.{count-after, count-before}
use Rattle.rules.proofs.Worst.{worst-of-largest}
use Rattle.limits.specs.Limits.{asked, most_ticks}
use Rattle.limits.specs.declared.Task.{Task}
use Rattle.runs.specs.Runs.{Laid, Runs}
use Rattle.maps.specs.Maps.{Drawn, Top}
use Rattle.maps.proofs.Strips.{met-drawn}
use Rattle.maps.proofs.Rises.{none-met}
use Rattle.late.specs.Late.{LateIn}
use Rattle.room.specs.Room.{Topped, Highest, Foremost, Nearest, Tallied}
use Rattle.room.proofs.Sides.{from-side}

-- ---- the ridge of late runs

pub topped-none : (l : List ℕ) (w h k : ℕ) → length l ≡ 0 → Topped l w h k 0 0
unfolding Topped
topped-none l w h k none z laid =
    largest-same (λ i s. none-met l w z laid none h k i) (record {
      bound = λ i s. omega arith;
      inside = laid.wheel.some;
      hit = refl;
      least = λ i s. absurd (omega arith);
    })

pub topped-drawn :
    (l : List ℕ) (w : ℕ) (m : List ℕ) (h k : ℕ) → length m ≡ w → ((z : Subset) → Laid l w z → Drawn m z) → (c a : ℕ)
    → Top m h k c a → Topped l w h k c a
unfolding Topped
topped-drawn l w m h k long drawn c a top z laid =
    let some : 0 < length m = rw long laid.wheel.some in
    rw long at (largest-same (λ i _. met-drawn m z (drawn z laid) some h k i) top)

pub highest :
    {g : ℤ} (l : List ℕ) (w : ℕ) (t : Task) (n : ℕ) (late late' : List ℕ) (c a : ℕ) → LateIn l w t 1 late n g late'
    → Topped (take n late') w t.h t.k c a → Highest l w t c a
unfolding Topped Highest count
highest l w t n late late' c a lates top u laid =
    largest-same (λ i _. from-side w u laid.wheel (asked t) 1 t.k i)
    (top (λ a. dropped 2 u (asked t) (2 * a + 1)) (lates.laid u laid))

pub nearest :
    {l : List ℕ} {w : ℕ} {t : Task} {side n : ℕ} {g : ℤ} {late late' : List ℕ} → LateIn l w t side late n g late' → Nearest l w t g
unfolding Nearest
nearest lates = lates.least

pub highest-inside :
    (l : List ℕ) (w : ℕ) (t : Task) (c a : ℕ) → Runs l w → Highest l w t c a → a < most_ticks
unfolding Runs Highest
highest-inside l w t c a runs high = omega (arith, (high runs.0 runs.1).inside, runs.1.most)

-- ---- no half tick is above it, and offsets

module _ (w : ℕ) (u : Subset) (t : rules.Task) {c a : ℕ} (r : Largest (λ i. count 2 u t (2 * i + 1)) w c a) where
  ridge-bound : (x : ℕ) → x < 2 * w → count 2 u t x ≤ c
  ridge-bound =
      by-parity (λ x. x < 2 * w → count 2 u t x ≤ c)
      (λ i s. let z = r.bound i (omega arith) in let y = count-after u t i in omega arith)
      (λ i s. r.bound i (omega arith))

  -- Offset 0: no half tick is before it.
  worst-zero : Wheel w u → count 2 u t 0 ≡ c → Worst w u t c 0
  worst-zero wheel e =
      worst-of-largest w u wheel t (record {
        bound = ridge-bound;
        inside = omega (arith, r.inside);
        hit = e;
        least = λ i s. absurd (omega arith);
      })

  -- Odd offsets. Before the ridge's half tick every count is less: of a later tick by the half tick before it, of tick 0 by the half tick after it,
  -- or as told.
  worst-odd : Wheel w u → (a ≡ 0 → count 2 u t 0 ≡ c → ⊥) → Worst w u t c (2 * a + 1)
  worst-odd wheel off =
      worst-of-largest w u wheel t (record {
        bound = ridge-bound;
        inside = omega (arith, r.inside);
        hit = r.hit;
        least = by-parity (λ x. x < 2 * a + 1 → count 2 u t x < c) even (λ i s. r.least i (omega arith));
      })
    where
      start : (b : ℕ) → b ≡ a → count 2 u t 0 < c
      start zero e =
          let x : count 2 u t 0 ≤ c = ridge-bound 0 (omega (arith, r.inside)) in
          let n : ¬ (count 2 u t 0 ≡ c) = off (sym e) in
          omega arith
      start (suc b) e = let x = count-after u t 0 in let y = r.least 0 (omega arith) in omega arith

      even : (i : ℕ) → 2 * i < 2 * a + 1 → count 2 u t (2 * i) < c
      even zero s = start a refl
      even (suc i) s =
          let q : 2 * suc i ≡ 2 * (i + 1) = omega arith in
          let x = count-before u t i in
          let y = r.least i (omega arith) in
          rw q (omega arith)

-- ---- what is found

-- Where no half tick after a tick has drops, tick 0 has none.
pub found_none : (l : List ℕ) (w : ℕ) (t : Task) (a : ℕ) → Highest l w t 0 a → Foremost l w t 0 0
unfolding Highest Foremost
found_none l w t a high u laid =
    let r = high u laid in
    let z : count 2 u (asked t) 0 ≤ 0 = ridge-bound w u (asked t) r 0 (omega (arith, laid.wheel.some)) in
    worst-zero w u (asked t) r laid.wheel (omega arith)

pub found-later : (l : List ℕ) (w : ℕ) (t : Task) (c a : ℕ) → Highest l w t c a → (a ≡ 0 → ⊥) → Foremost l w t c (2 * a + 1)
unfolding Highest Foremost
found-later l w t c a high off u laid = worst-odd w u (asked t) (high u laid) laid.wheel (λ e _. off e)

pub found-start : (l : List ℕ) (w : ℕ) (t : Task) (c a : ℕ) → Highest l w t c a → Tallied l w t 0 c → Foremost l w t c 0
unfolding Highest Foremost Tallied
found-start l w t c a high tally u laid = worst-zero w u (asked t) (high u laid) laid.wheel (sym (tally u laid))

-- Half a tick after tick 0, where tick 0 itself has another count.
pub found-half :
    (l : List ℕ) (w : ℕ) (t : Task) (c a n : ℕ) → Highest l w t c a → a ≡ 0 → Tallied l w t 0 n → (n ≡ c → ⊥) → Foremost l w t c 1
unfolding Highest Foremost Tallied
found-half l w t c a n high zero-at tally other u laid =
    let start : Largest (λ i. count 2 u (asked t) (2 * i + 1)) w c 0 = rw zero-at at (high u laid) in
    worst-odd w u (asked t) start laid.wheel (λ _ e. other (tally u laid ∙ e))

pub tallied-none :
    {g : ℤ} (l : List ℕ) (w : ℕ) (t : Task) (x n : ℕ) (late late' : List ℕ) → LateIn l w t (x % 2) late n g late' → n ≡ 0 → Tallied l w t x 0
unfolding Tallied count
tallied-none l w t x n late late' lates none u laid =
    let whole : 2 * (x / 2) + x % 2 ≡ x = omega arith in
    none-met _ w _ (lates.laid u laid) (length-take-le n late' lates.room ∙ none) t.h t.k (x / 2)
    ∙ from-side w u laid.wheel (asked t) (x % 2) t.k (x / 2) ∙ ap (drops 2 u (asked t) t.k) whole
