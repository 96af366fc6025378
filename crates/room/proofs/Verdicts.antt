-- From late runs to the verdict: a table is firm where from no tick more than k − m strips meet a late tick half a tick after it.
--
-- In order: what a search or the largest count tells; from late runs to firm; what is told for nothing. Assumes nothing.
use mathlib.Core.Path.{◌≡◌, refl}
use mathlib.Core.Bool.{Bool, true, false}
use mathlib.Core.List.{List}
use Prim.Native.Nat.{ℕ, ◌+◌, ◌-◌, ◌*◌, ◌≤◌, ◌<◌}
use native.Mathlib.Nat.{mul-zero}
use native.Mathlib.Omega.{arith}
use lib.Dec.{leb}
use lib.IntN.{ℤ, pos}
use lib.Signed.{lt_z}
use lib.ListN.{take}
use borrow.Author.Tests.{leb-true, le-leb}
use Rattle.rules.specs.Sums.{Subset, bit}
use Rattle.rules.specs.Supply.{dropped, drops, count}
use Rattle.rules.specs.Worst.{Firm, firm_test}
use Rattle.rules.specs.Least.{Painted}
use Rattle.rules.proofs.Sums.{by-parity, number-const}
use Rattle.rules.proofs.Signed.{zero-le}
use Rattle.rules.proofs.Worst.{worst-exists, firm-agrees, firm-all}
use Rattle.rules.proofs.Zones.{count-after}
use Rattle.rules.proofs.Least.{least-tells}
use Rattle.limits.specs.Limits.{asked}
use Rattle.limits.proofs.Refusals.{clash}
use Rattle.limits.specs.declared.Task.{Task}
use Rattle.late.specs.Late.{LateIn}
use Rattle.excess.specs.Excess.{Says}
use Rattle.excess.specs.declared.Outcome.TheVariants as outcome
use Rattle.room.specs.Room.{Topped, Nearest, Bears, Decides}
use Rattle.room.proofs.Sides.{from-side}

-- ---- what a search or the largest count tells

pub bears-passed : (l : List ℕ) (w h k a : ℕ) → Says l w h k a outcome.Passed → Bears l w h k a false
unfolding Bears
bears-passed l w h k a says z laid = (
  λ e. clash e refl,
  λ few. let above = says z laid in absurd (omega (arith, few above.place above.inside, above.passes)),
)

pub bears-never : (l : List ℕ) (w h k a : ℕ) → Says l w h k a outcome.Never → Bears l w h k a true
unfolding Bears
bears-never l w h k a says z laid = (λ _. says z laid, λ _. refl)

pub bears-top : (l : List ℕ) (w h k a c t : ℕ) → Topped l w h k c t → Bears l w h k a (leb c a)
unfolding Bears Topped
bears-top l w h k a c t top z laid =
    let most = top z laid in (
      λ e p inside. omega (arith, leb-true c a e, most.bound p inside),
      λ few. le-leb c a (omega (arith, few t most.inside, most.hit)),
    )

-- ---- from late runs to firm

-- Where half a tick after no tick more than k − m strips drop, no half tick drops more.
pub decides :
    {g : ℤ} {l : List ℕ} {w : ℕ} {t : Task} {n : ℕ} {late late' : List ℕ} (b : Bool) → LateIn l w t 1 late n g late'
    → Bears (take n late') w t.h t.k (t.k - t.m) b → Decides l w t b
unfolding Bears Decides Firm firm_test count
decides {l = l} {w} {t} b lates bears u laid =
    let z : Subset = λ a. dropped 2 u (asked t) (2 * a + 1) in
    let tells = bears z (lates.laid u laid) in
    let same = from-side w u laid.wheel (asked t) 1 t.k in
    let worst = worst-exists w u laid.wheel (asked t) in (
      λ e.
          let few = tells.0 e in
          let odd : (i : ℕ) → i < w → count 2 u (asked t) (2 * i + 1) ≤ t.k - t.m = λ i s. rw (same i) at (few i s) in
          let all =
          by-parity (λ x. x < 2 * w → count 2 u (asked t) x ≤ t.k - t.m)
          (λ i s. omega (arith, odd i (omega arith), count-after u (asked t) i))
          (λ i s. odd i (omega arith)) in
          (firm-agrees w u (asked t) worst.0 worst.1 worst.2).0
          (le-leb _ _ (rw worst.2.hit at (all worst.1 worst.2.inside))),
      λ firm. tells.1 (λ p s. rw (same p) (firm 2 (2 * p + 1) (omega arith))),
    )

-- ---- what is told for nothing

-- With m 0 every strip may drop.
pub decides-all : (l : List ℕ) (w : ℕ) (t : Task) → t.m ≡ 0 → Decides l w t true
unfolding Decides
decides-all l w t none u laid = (λ _. firm-all u (asked t) none, λ _. refl)

-- Where the least margin isn't below zero no strip drops.
pub decides-painted :
    (l : List ℕ) (w : ℕ) (t : Task) (g : ℤ) → Nearest l w t g → lt_z g (pos 0) ≡ false → Decides l w t true
unfolding Nearest Decides Painted Firm count drops bit
decides-painted l w t g near above u laid =
    let painted = (least-tells w u (asked t) g (near u laid)).0 (zero-le g above) in (
      λ _ q p q+.
          let none = number-const (λ i. dropped q u (asked t) (p + i * (q * t.h))) false t.k (λ i _. painted q (p + i * (q * t.h)) q+) in
          omega (arith, none, mul-zero t.k),
      λ _. refl,
    )
