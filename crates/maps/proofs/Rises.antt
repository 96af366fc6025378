-- Where a count of strips rises from one tick to the next, and where runs start: a strip then arrives at the start of a run.
--
-- In order: where a count rises; where runs start; no runs. Assumes nothing.
use mathlib.Core.Path.{◌≡◌, sym, ap, ◌∙◌}
use mathlib.Core.Logic.{⊎_elim}
use mathlib.Core.List.{List}
use Prim.Native.Nat.{ℕ, zero, suc, ◌+◌, ◌-◌, ◌*◌, ◌%◌, ◌≤◌, ◌<◌}
use native.Mathlib.Nat.{mod-lt, mod-eq_of_lt, mod-add-mod, mul-zero}
use native.Mathlib.Omega.{arith}
use lib.Dec.{ltb}
use lib.ListN.{length, get_or}
use borrow.Author.Tests.{ltb-true, ltb-false}
use Rattle.rules.specs.Sums.{Subset, bit}
use Rattle.rules.proofs.Sums.{le-or-lt, bit_le, sum_mono, sum-const, Found, found-or-none}
use Rattle.runs.specs.Runs.{edge, Lay, Laid}
use Rattle.runs.proofs.Edges.{edge-past}
use Rattle.maps.specs.Maps.{strips, met}
use Rattle.maps.proofs.Places.{one_place}

-- ---- where a count rises

-- Where more is met from b on than from a on, one strip meets more.
rises :
    (f : ℕ → ℕ) (w s k a b : ℕ) → strips f w s k a < strips f w s k b
    → Found (λ n. ltb (f ((a + n * s) % w)) (f ((b + n * s) % w))) k
unfolding strips
rises f w s k a b less =
    ⊎_elim
    (λ found. found)
    (λ none.
    let most =
    sum_mono (λ n. f ((b + n * s) % w)) (λ n. f ((a + n * s) % w)) k (λ n few. ltb-false _ _ (none n few)) in
    absurd (omega arith))
    (found-or-none _ k)

-- From tick p on a strip meets the set z at a tick whose tick before is out of it.
pub record Rise (w : ℕ) (z : Subset) (s k p : ℕ) : Type 0 where
  pub strip : ℕ
  pub few : strip < k
  pub before : ℕ
  pub inside : before < w
  pub next : (before + 1) % w ≡ (p + strip * s) % w
  pub out : bit (z before) ≡ 0
  pub in-it : bit (z ((p + strip * s) % w)) ≡ 1

pub rise :
    (w : ℕ) (z : Subset) (s k t p : ℕ) → 0 < w → p ≡ (t + 1) % w → met w z s k t < met w z s k p → Rise w z s k p
unfolding met
rise w z s k t p some on less =
    let found = rises (λ a. bit (z a)) w s k t p less in
    let n = found.place in
    let b = (t + n * s) % w in
    let apart : bit (z b) < bit (z ((p + n * s) % w)) = ltb-true _ _ found.passes in
    let e : t + n * s + 1 ≡ t + 1 + n * s = omega arith in
    record {
      strip = n;
      few = found.below;
      before = b;
      inside = mod-lt _ some;
      next = mod-add-mod (t + n * s) w 1 ∙ ap (λ y. y % w) e ∙ sym (mod-add-mod (t + 1) w (n * s)) ∙ ap (λ y. (y + n * s) % w) (sym on);
      out = omega (arith, bit_le (z ((p + n * s) % w)));
      in-it = omega (arith, bit_le (z ((p + n * s) % w)));
    }

-- ---- where runs start

-- A run of ticks of the set starts at a.
pub record Start (l : List ℕ) (w a : ℕ) : Type 0 where
  pub entry : ℕ
  pub even : entry % 2 ≡ 0
  pub below : entry < length l
  pub place : get_or l entry w ≡ a

record Run (l : List ℕ) (w a : ℕ) : Type 0 where
  pub run : ℕ
  pub from : edge l w run ≤ a
  pub to : a < edge l w (suc run)

run_of : (l : List ℕ) (w a n : ℕ) → a < edge l w n → Run l w a
unfolding edge
run_of l w a zero less = absurd (omega arith)
run_of l w a (suc n) less =
    ⊎_elim
    (λ (from : edge l w n ≤ a). record { run = n; from = from; to = less })
    (λ (later : a < edge l w n). run_of l w a n later)
    (le-or-lt (edge l w n) a)

-- The run that tick a is in starts there, where a is in the set and the tick before it isn't.
start-at :
    {l : List ℕ} {w : ℕ} {z : Subset} (a : ℕ) → Lay l w z → a < w → bit (z a) ≡ 1
    → ((b : ℕ) → b + 1 ≡ a → bit (z b) ≡ 0) → Start l w a
unfolding edge
start-at {l} {w} {z} a lay inside in-it before =
    go r.run r.from r.to
  where
    r : Run l w a
    r = run_of l w a (suc (length l)) (omega (arith, edge-past l w (suc (length l)) (omega arith)))

    go : (j : ℕ) → edge l w j ≤ a → a < edge l w (suc j) → Start l w a
    go zero from to = absurd (omega (arith, lay.alike zero a from to))
    go (suc i) from to =
        let odd : 1 ≡ suc i % 2 = sym in-it ∙ lay.alike (suc i) a from to in
        let short : i < length l =
        ⊎_elim
        (λ (past : length l ≤ i). absurd (omega (arith, edge-past l w (suc i) (omega arith))))
        (λ (below : i < length l). below)
        (le-or-lt (length l) i) in
        let at : edge l w (suc i) ≡ a =
        ⊎_elim
        (λ (low : a ≤ edge l w (suc i)). omega arith)
        (λ (high : edge l w (suc i) < a).
        let out = before (a - 1) (omega arith) in
        absurd (omega (arith, lay.alike (suc i) (a - 1) (omega arith) (omega arith))))
        (le-or-lt a (edge l w (suc i))) in
        record { entry = i; even = omega arith; below = short; place = at }

-- Where a count rises a strip arrives at the start of a run.
pub rise-start :
    {l : List ℕ} {w : ℕ} {z : Subset} {s k p : ℕ} → Lay l w z → (r : Rise w z s k p) → Start l w ((p + r.strip * s) % w)
rise-start {w = w} {s = s} {p = p} lay r =
    let inside : (p + r.strip * s) % w < w = mod-lt _ (omega (arith, r.inside)) in
    start-at _ lay inside r.in-it (λ x e.
    let there : (x + 1) % w ≡ (r.before + 1) % w = mod-eq_of_lt (omega arith) ∙ e ∙ sym r.next in
    rw (one_place 1 (omega arith) r.inside there) r.out)

-- ---- no runs

-- Without runs no tick is met.
pub none-met : (l : List ℕ) (w : ℕ) (z : Subset) → Laid l w z → length l ≡ 0 → (h k i : ℕ) → 0 ≡ met w z h k i
unfolding met strips edge
none-met l w z laid none h k i = sym (sum-const _ 0 k (λ n _. missed ((i + n * h) % w) (mod-lt (i + n * h) laid.wheel.some)) ∙ mul-zero k)
  where
    missed : (a : ℕ) → a < w → bit (z a) ≡ 0
    missed a s = laid.lay.alike 0 a (omega arith) (rw (edge-past l w 1 (omega arith)) s)
