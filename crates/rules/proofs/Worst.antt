-- The worst count: the laws WorstExists, WorstUnique and FirmAgrees.
--
-- By the step over q the counts of the 2w half ticks of the wheel are all the counts there are, so their first largest is the worst.
-- In order: from half ticks to Worst; it exists; it is unique; firm. Not here: where it lies (Zones).
-- Assumes nothing.
use mathlib.Core.Path.{◌≡◌, sym, ◌∙◌}
use Prim.Native.Nat.{ℕ, suc, ◌+◌, ◌-◌, ◌*◌, ◌%◌, ◌≤◌, ◌<◌}
use native.Mathlib.Nat.{mod-lt, le_antisymm}
use native.Mathlib.Omega.{arith}
use borrow.Author.Tests.{leb-true, le-leb}
use Rattle.rules.specs.Sums.{Subset, Largest}
use Rattle.rules.specs.Supply.{Task, dropped, drops, count}
use Rattle.rules.specs.Worst.{Wheel, Worst, Firm, firm_test}
use Rattle.rules.specs.Laws.{half_tick, WorstExists, WorstUnique, FirmAgrees}
use Rattle.rules.proofs.Sums.{number-le, Best, best}
use Rattle.rules.proofs.Step.{step-over-q}

-- The first largest count among the half ticks of the wheel is the worst over all fractions.
pub worst-of-largest : (w : ℕ) (u : Subset) → Wheel w u → (t : Task) {c o : ℕ} → Largest (count 2 u t) (2 * w) c o → Worst w u t c o
worst-of-largest w u wheel t {o = o} b =
    record {
      bound = λ q p pos.
          let inside : half_tick q p % (2 * w) < 2 * w = mod-lt (half_tick q p) (omega (arith, wheel.some)) in
          rw (step-over-q w u wheel t q p pos) (b.bound (half_tick q p % (2 * w)) inside);
      inside = b.inside;
      hit = b.hit;
      least = λ x e.
          let n : ¬ (x < o) = λ l. let g = b.least x l in omega arith in
          omega arith;
    }

pub worst-exists : WorstExists
worst-exists w u wheel t =
    let e : suc (2 * w - 1) ≡ 2 * w = omega (arith, wheel.some) in
    let b : Best (count 2 u t) (2 * w) = rw e at (best (count 2 u t) (2 * w - 1)) in
    (b.value, b.place, worst-of-largest w u wheel t b.largest)

pub worst-unique : WorstUnique
worst-unique w u t c o c' o' a b =
    let low : c ≤ c' = rw a.hit at (b.bound 2 o (omega arith)) in
    let high : c' ≤ c = rw b.hit at (a.bound 2 o' (omega arith)) in
    let same : c ≡ c' = le_antisymm low high in
    (same, le_antisymm (a.least o' (b.hit ∙ sym same)) (b.least o (a.hit ∙ same)))

pub firm-agrees : FirmAgrees
unfolding firm_test Firm
firm-agrees w u t c o worst = (
  λ e q p pos. let l = leb-true c (t.k - t.m) e in let b = worst.bound q p pos in omega arith,
  λ firm. le-leb c (t.k - t.m) (rw worst.hit at (firm 2 o (omega arith))),
)

-- With m 0 every strip may drop.
pub firm-all : (u : Subset) (t : Task) → t.m ≡ 0 → Firm u t
unfolding Firm count drops
firm-all u t none q p pos = omega (arith, number-le (λ i. dropped q u t (p + i * (q * t.h))) t.k)
