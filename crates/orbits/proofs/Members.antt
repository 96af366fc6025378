-- Ticks that are c more than a multiple of g: how many lie below a tick, and how many of them are in a set that runs lay out.
--
-- In order: how many lie below a tick; those of a run; all runs; a round along a drawn map. Assumes nothing.
use mathlib.Core.Path.{◌≡◌, refl, sym, ap, ◌∙◌}
use mathlib.Core.Logic.{⊎_elim}
use mathlib.Core.List.{List}
use Prim.Native.Nat.{ℕ, suc, ◌+◌, ◌-◌, ◌*◌, ◌/◌, ◌%◌, ◌≤◌, ◌<◌, ◌∣◌}
use native.Mathlib.Nat.{one-mul, add-mul, mod-lt, mul-le-mul_right, le_of_dvd}
use native.Mathlib.Nat.{div-add-mod', div-le_self, div-mul_cancel, div-eq_of_lt, mul-add-div_right}
use native.Mathlib.Numerals.{add-one}
use native.Mathlib.Omega.{arith}
use lib.ListN.{length, get_or}
use Rattle.limits.specs.Limits.{most_ticks}
use Rattle.rules.specs.Sums.{Subset, bit, sum, number}
use Rattle.rules.proofs.Sums.{le-or-lt, sum-cong, sum-split, sum-const, number-le}
use Rattle.runs.specs.Runs.{edge, Lay, Laid, Runs}
use Rattle.runs.proofs.Edges.{edge-past, runs-some, runs_of}
use Rattle.maps.specs.Maps.{Mapped, fallen}
use Rattle.maps.proofs.Strips.{fallen-most, fallen-turns}
use Rattle.maps.proofs.Draws.{edge-most}
use Rattle.divisor.specs.Divisor.{Gcd}
use Rattle.divisor.proofs.Divisor.{gcd-some}
use Rattle.orbits.specs.Orbits.{Ring, members}
use Rattle.orbits.proofs.Rounds.{round-class}
use Rattle.orbits.proofs.Laps.{counted}

-- ---- how many lie below a tick

-- What `below` gives.
abbrev passed : ℕ → ℕ → ℕ → ℕ
passed g c x = (x + (g - 1 - c)) / g

module _ {g c : ℕ} (less : c < g) where
  passed-lt : (x j : ℕ) → j < passed g c x → c + j * g < x
  passed-lt x j before =
      let y = x + (g - 1 - c) in
      omega (arith, mul-le-mul_right {m = j + 1} {n = y / g} g (omega arith), add-mul j 1 g, one-mul g, div-add-mod' y g)

  passed-ge : (x j : ℕ) → passed g c x ≤ j → x ≤ c + j * g
  passed-ge x j past =
      let y = x + (g - 1 - c) in
      omega (arith, mul-le-mul_right {m = y / g} {n = j} g past, div-add-mod' y g, mod-lt y {m = g} (omega arith))

  passed-rises : (x x' : ℕ) → x ≤ x' → passed g c x ≤ passed g c x'
  passed-rises x x' rises =
      ⊎_elim
      (λ (so : passed g c x ≤ passed g c x'). so)
      (λ (not : passed g c x' < passed g c x).
      absurd (omega (arith, passed-lt x (passed g c x') not, passed-ge x' (passed g c x') (omega arith))))
      (le-or-lt (passed g c x) (passed g c x'))

  passed-all : (w : ℕ) → g ∣ w → passed g c w ≡ w / g
  passed-all w whole =
      ap (λ x. (x + (g - 1 - c)) / g) (sym (div-mul_cancel g whole)) ∙ mul-add-div_right {m = g} (omega arith) (w / g) (g - 1 - c)
      ∙ omega (arith, div-eq_of_lt {n = g - 1 - c} {m = g} (omega arith))

-- ---- those of a run

members-most : (z : Subset) (g c n : ℕ) → members z g c n ≤ n
unfolding members number
members-most z g c n = number-le (λ j. z (c + j * g)) n

-- A run is all in the set or all out of it.
run-members :
    {l : List ℕ} {w : ℕ} {z : Subset} {g c : ℕ} → c < g → Lay l w z → (i v : ℕ) → i % 2 ≡ v
    → members z g c (passed g c (edge l w (suc i)))
    ≡ members z g c (passed g c (edge l w i)) + (passed g c (edge l w (suc i)) - passed g c (edge l w i)) * v
unfolding members
run-members {l} {w} {z} {g} {c} less lay i v side =
    let a = passed g c (edge l w i) in
    let b = passed g c (edge l w (suc i)) in
    let f : ℕ → ℕ = λ j. bit (z (c + j * g)) in
    let e : b ≡ a + (b - a) = omega (arith, passed-rises less (edge l w i) (edge l w (suc i)) (lay.order i)) in
    let alike : sum (λ j. f (a + j)) (b - a) ≡ (b - a) * v =
    sum-const _ v (b - a) (λ j few.
    lay.alike i (c + (a + j) * g) (passed-ge less (edge l w i) (a + j) (omega arith))
    (passed-lt less (edge l w (suc i)) (a + j) (omega arith)) ∙ side) in
    ap (sum f) e ∙ sum-split f a (b - a) ∙ ap (λ x. sum f a + x) alike

-- ---- all runs

-- An even number of runs is counted, up to where run i starts.
pub record Meeting (l : List ℕ) (w g c n i : ℕ) : Type 0 where
  pub even : i % 2 ≡ 0
  pub count : (z : Subset) → Laid l w z → n ≡ members z g c (passed g c (edge l w i))

pub meet-start : {l : List ℕ} {w g c : ℕ} → c < g → Meeting l w g c 0 0
unfolding members sum edge
meet-start {g = g} {c} less =
    record {
      even = refl;
      count = λ z laid. ap (λ n. members z g c n) (sym (div-eq_of_lt {n = 0 + (g - 1 - c)} {m = g} (omega arith)));
    }

pub meet-few : {l : List ℕ} {w g c n i : ℕ} → Runs l w → Meeting l w g c n i → n ≤ edge l w i + g
unfolding Runs
meet-few {l} {w} {g} {c} {n} {i} (z, laid) m =
    let y = edge l w i + (g - 1 - c) in
    omega (arith, m.count z laid, members-most z g c (y / g), div-le_self y g)

-- Where `below` is asked.
pub below-fits :
    (l : List ℕ) (w : ℕ) {g c x : ℕ} → Runs l w → g ∣ w → c < g → (j : ℕ) → x ≡ edge l w j → (x ≤ most_ticks) × (c < g) × (g ≤ most_ticks)
below-fits l w runs whole less j e =
    let some = runs-some l w runs in
    let most = some.1 in
    (omega (arith, edge-most l w runs j), less, omega (arith, le_of_dvd some.0 whole))

pub sum_fits :
    {l : List ℕ} {w g c n i x a : ℕ} → Runs l w → g ∣ w → Meeting l w g c n i → x ≤ most_ticks → a ≡ passed g c x → n + a ≤ 4 * most_ticks
sum_fits {l} {w} {g} {c} {i = i} {x} runs whole m inside e =
    let some = runs-some l w runs in
    let most = some.1 in
    omega (arith, meet-few runs m, edge-most l w runs i, le_of_dvd some.0 whole, div-le_self (x + (g - 1 - c)) g)

pub meet-next :
    {l : List ℕ} {w g c n i start end a b : ℕ} → c < g → Meeting l w g c n i → start ≡ edge l w (suc i)
    → end ≡ edge l w (suc (i + 1)) → a ≡ passed g c end → b ≡ passed g c start → Meeting l w g c (n + a - b) (i + 2)
meet-next {l} {w} {g} {c} {n} {i} {start} {end} less m e f high low =
    let odd : suc i % 2 ≡ 1 = omega (arith, m.even) in
    let there : end ≡ edge l w (suc (suc i)) = f ∙ ap (λ x. edge l w (suc x)) (add-one i) in
    let two : suc (suc i) ≡ i + 2 = omega arith in
    record {
      even = omega (arith, m.even);
      count = λ z laid.
          let outside = run-members less laid.lay i 0 m.even in
          let inside = run-members less laid.lay (suc i) 1 odd in
          let rises = passed-rises less (edge l w (suc i)) (edge l w (suc (suc i))) (laid.lay.order (suc i)) in
          let here = low ∙ ap (passed g c) e in
          let last = high ∙ ap (passed g c) there in
          omega (arith, m.count z laid, outside, inside, rises, here, last, ap (λ x. members z g c (passed g c (edge l w x))) two);
    }

pub meet-end :
    {l : List ℕ} {w g c n i : ℕ} → c < g → g ∣ w → Meeting l w g c n i → length l ≤ i
    → (z : Subset) → Laid l w z → n ≡ members z g c (w / g)
meet-end {l} {w} {g} {c} {n} {i} less whole m end z laid =
    let last : passed g c (edge l w (suc i)) ≡ w / g = ap (passed g c) (edge-past l w (suc i) (omega arith)) ∙ passed-all less w whole in
    omega (arith, m.count z laid, run-members less laid.lay i 0 m.even, ap (members z g c) last)

-- ---- a round along a drawn map

-- The ticks of the set on a round's orbit are the strips of the round that meet a 1.
round-met :
    (l m : List ℕ) {s g p n : ℕ} → Mapped l m → 0 < length m → Gcd (length m) s g → p < length m
    → ((z : Subset) → Laid l (length m) z → n ≡ members z g (p % g) (length m / g)) → n ≡ fallen m s (length m / g) p
unfolding Mapped members fallen
round-met l m {s} {g} {p} (z, laid, drawn) some d inside count =
    let w = length m in
    let full : w / g * g ≡ w = div-mul_cancel g d.left in
    count z laid
    ∙ sum-cong _ _ (w / g) (λ j few.
    sym (drawn.at (p % g + j * g)
    (omega (arith, full, mul-le-mul_right {m = j + 1} {n = w / g} g (omega arith), add-mul j 1 g, one-mul g, mod-lt p (gcd-some d some)))))
    ∙ sym (round-class (λ a. get_or m a 0) w s g p some d inside)

-- A round as often as it fits, and the strips that are left over.
pub count-end :
    (l m : List ℕ) (h k g p : ℕ) {rounds met rest : ℕ} → Mapped l m → Ring m h k → Gcd (length m) (h % length m) g → p < length m
    → rounds ≡ k / (length m / g) → ((z : Subset) → Laid l (length m) z → met ≡ members z g (p % g) (length m / g))
    → rest ≡ fallen m (h % length m) (k % (length m / g)) p
    → (rounds * met + rest ≡ fallen m h k p) × (rounds * met + rest ≤ k)
count-end l m h k g p {rounds} {met} {rest} mapped ring d inside often count left =
    let round = round-met l m mapped ring.some d inside count in
    let all : rounds * met + rest ≡ fallen m h k p = rw (often, round, left) (sym (counted m k ring.some d p) ∙ fallen-turns m h k p) in
    (all, rw all (fallen-most m h k p ring.bits))

pub runs-mapped : (l m : List ℕ) → Mapped l m → Runs l (length m)
unfolding Mapped
runs-mapped l m (z, laid, drawn) = runs_of laid
