-- From late runs to the rules' counts: strips that meet the late ticks of a side are the strips of the rules that are dropped from that side of a tick.
--
-- In order: late ticks; a map of them; late runs; a count. Assumes nothing.
use mathlib.Core.Path.{◌≡◌, sym, ap, ◌∙◌}
use mathlib.Core.Logic.{⊎_elim}
use mathlib.Core.List.{List}
use Prim.Native.Nat.{ℕ, ◌+◌, ◌*◌, ◌/◌, ◌%◌, ◌≤◌, ◌<◌}
use native.Mathlib.Nat.{mul_left_comm}
use native.Mathlib.Omega.{arith}
use lib.IntN.{ℤ}
use lib.ListN.{length, get_or, take, get_or-eq_default}
use lib.Seq.{length-take-le}
use Rattle.rules.specs.Sums.{Subset, bit, number}
use Rattle.rules.specs.Supply as rules
use Rattle.rules.specs.Supply.{dropped, drops, count}
use Rattle.rules.specs.Worst.{Wheel}
use Rattle.rules.proofs.Sums.{le-or-lt, bit_le, sum-cong}
use Rattle.rules.proofs.Zones.{tick-mod}
use Rattle.limits.specs.Limits.{asked, most_period, most_strips}
use Rattle.limits.specs.declared.Task.{Task}
use Rattle.runs.specs.Runs.{Laid, Runs, Ordered}
use Rattle.runs.proofs.Ordered.{runs_in, runs_ordered}
use Rattle.maps.specs.Maps.{Drawn, Mapped, Sized, strips, met, fallen}
use Rattle.maps.proofs.Strips.{met-drawn}
use Rattle.late.specs.Late.{LateIn}
use Rattle.room.specs.Room.{Tallied}

-- ---- late ticks

pub from-side :
    (w : ℕ) (u : Subset) → Wheel w u → (t : rules.Task) (side n x : ℕ)
    → met w (λ a. dropped 2 u t (2 * a + side)) t.h n x ≡ drops 2 u t n (2 * x + side)
unfolding met strips drops number
from-side w u wheel t side n x =
    sum-cong _ _ n (λ i _.
    let y : ℕ = x + i * t.h in
    let arrives : 2 * y + side ≡ 2 * x + side + i * (2 * t.h) = omega (arith, mul_left_comm i 2 t.h) in
    ap bit (sym (tick-mod w u wheel t y side) ∙ ap (dropped 2 u t) arrives))

-- ---- a map of them

pub drawn-bits : (m : List ℕ) (z : Subset) → Drawn m z → (a : ℕ) → get_or m a 0 ≤ 1
drawn-bits m z drawn a =
    ⊎_elim
    (λ (g : length m ≤ a). let e : get_or m a 0 ≡ 0 = get_or-eq_default m 0 g in omega arith)
    (λ (g : a < length m). rw (drawn.at a g) (bit_le (z a)))
    (le-or-lt (length m) a)

module _ (l : List ℕ) (w : ℕ) (m : List ℕ) (runs : Runs l w) (long : length m ≡ w) (drawn : (z : Subset) → Laid l w z → Drawn m z) where
  pub drawn-sized : (h k : ℕ) → h ≤ most_period → k ≤ most_strips → Sized m h k
  unfolding Runs
  drawn-sized h k period few =
      record {
        some = omega (arith, runs.1.wheel.some);
        most = omega (arith, runs.1.most);
        period = period;
        strips = few;
        bits = drawn-bits m runs.0 (drawn runs.0 runs.1);
      }

  pub drawn-mapped : Mapped l m
  unfolding Runs Mapped
  drawn-mapped = (runs.0, rw long runs.1, drawn runs.0 runs.1)

-- ---- late runs

-- The late ticks are runs of some set, and have no more edges than the wheel has ticks.
pub late-runs :
    {l : List ℕ} {w : ℕ} {t : Task} {side n : ℕ} {g : ℤ} {late late' : List ℕ} → Runs l w → LateIn l w t side late n g late'
    → Runs (take n late') w × (length (take n late') ≤ w)
unfolding Runs
late-runs {t = t} {side} {n} {late' = late'} runs lates = (
  (λ a. dropped 2 runs.0 (asked t) (2 * a + side), lates.laid runs.0 runs.1),
  omega (arith, length-take-le n late' lates.room, lates.few),
)

pub lates-runs :
    {l : List ℕ} {w : ℕ} {t : Task} {side n : ℕ} {g : ℤ} {late late' : List ℕ} → Runs l w → (map : List ℕ) → length map ≡ w
    → LateIn l w t side late n g late' → Runs (take n late') (length map) × (length (take n late') ≤ length map)
lates-runs runs map long lates = rw long (late-runs runs lates)

pub late-ordered :
    {l : List ℕ} {w : ℕ} {t : Task} {side n : ℕ} {g : ℤ} {late late' : List ℕ} → Ordered l w → LateIn l w t side late n g late'
    → Ordered (take n late') w
late-ordered order lates = runs_ordered (late-runs (runs_in order) lates).0

-- ---- a count

pub tallied :
    {g : ℤ} (l : List ℕ) (w : ℕ) (t : Task) (x n r : ℕ) (late late' map : List ℕ) → LateIn l w t (x % 2) late n g late' → length map ≡ w
    → ((z : Subset) → Laid (take n late') w z → Drawn map z) → r ≡ fallen map t.h t.k (x / 2) → Tallied l w t x r
unfolding Tallied count
tallied l w t x n r late late' map lates long drawn e u laid =
    let z : Subset = λ a. dropped 2 u (asked t) (2 * a + x % 2) in
    let whole : 2 * (x / 2) + x % 2 ≡ x = omega arith in
    let strips = met-drawn map z (drawn z (lates.laid u laid)) (omega (arith, laid.wheel.some)) t.h t.k (x / 2) in
    e ∙ rw long at strips ∙ from-side w u laid.wheel (asked t) (x % 2) t.k (x / 2) ∙ ap (drops 2 u (asked t) t.k) whole
