-- Laying out runs from tick 0 on: an edge where the list has just come to changes no edge, and a list that has come to a tick goes on to a later
-- one where all ticks between are as its last run says.
--
-- In order: edges within the list and past it; an edge more; going on; a turn and the ticks behind it; runs of some set. Assumes nothing.
use mathlib.Core.Path.{◌≡◌, refl, sym, ap, ◌∙◌}
use mathlib.Core.Logic.{⊎_elim}
use mathlib.Core.List.{List, [], ◌∷◌, ◌++◌}
use Prim.Native.Nat.{ℕ, zero, suc, ◌+◌, ◌-◌, ◌%◌, ◌≤◌, ◌<◌}
use native.Mathlib.Numerals.{add-one}
use native.Mathlib.Nat.{add-zero, add-suc, le_refl, eq-or-lt_of_le}
use native.Mathlib.Omega.{arith}
use lib.ListN.{length, get_or, take, set, get_or-eq_default}
use lib.Seq.{take-suc-set, length-take-le}
use Rattle.rules.specs.Sums.{Subset, bit}
use Rattle.rules.proofs.Sums.{le-or-lt}
use Rattle.limits.specs.Limits.{most_ticks}
use Rattle.runs.specs.Runs.{edge, Lay, Laid, Runs, Turn}

-- ---- edges within the list and past it

get_or-within : (l : List ℕ) (i a b : ℕ) → i < length l → get_or l i a ≡ get_or l i b
get_or-within [] i a b s = absurd (omega arith)
get_or-within (x ∷ l) zero a b s = refl
get_or-within (x ∷ l) (suc i) a b s = get_or-within l i a b (omega arith)

pub edge-within : (l : List ℕ) (a b i : ℕ) → i ≤ length l → edge l a i ≡ edge l b i
unfolding edge
edge-within l a b zero s = refl
edge-within l a b (suc i) s = get_or-within l i a b (omega arith)

pub edge-read : (l : List ℕ) (to i : ℕ) → i < length l → get_or l i 0 ≡ edge l to (suc i)
unfolding edge
edge-read l to i s = edge-within l 0 to (suc i) (omega arith)

pub edge-past : (l : List ℕ) (to i : ℕ) → length l < i → edge l to i ≡ to
unfolding edge
edge-past l to zero s = absurd (omega arith)
edge-past l to (suc i) s = get_or-eq_default l to (omega arith)

-- ---- an edge more

get_or-pushed : (l : List ℕ) (at i : ℕ) → get_or (l ++ (at ∷ [])) i at ≡ get_or l i at
get_or-pushed [] at zero = refl
get_or-pushed [] at (suc i) = refl
get_or-pushed (x ∷ l) at zero = refl
get_or-pushed (x ∷ l) at (suc i) = get_or-pushed l at i

pub edge-pushed : (l : List ℕ) (n at i : ℕ) → n < length l → edge (take (n + 1) (set l n at)) at i ≡ edge (take n l) at i
unfolding edge
edge-pushed l n at zero s = refl
edge-pushed l n at (suc i) s = rw (add-one, take-suc-set l n at s) (get_or-pushed (take n l) at i)

pub lay-same :
    (l l' : List ℕ) (to : ℕ) (u : Subset) → ((i : ℕ) → edge l' to i ≡ edge l to i) → Lay l to u → Lay l' to u
lay-same l l' to u same lay =
    record {
      order = λ i. rw (same i, same (suc i)) (lay.order i);
      alike = λ i x. rw (same i, same (suc i)) (lay.alike i x);
    }

pub lay-turn :
    {l l' : List ℕ} {n at step r : ℕ} {u : Subset} → Turn l n at step r l' → Lay (take n l) at u → Lay (take r l') at u
lay-turn {l} {l'} {n} {at} {step} {r} {u} t lay = lay-same (take n l) (take r l') at u t.same lay

-- ---- going on

pub lay-none : (u : Subset) → Lay [] 0 u
unfolding edge
lay-none u = record { order = λ i. edges i; alike = λ i x low high. absurd (none i x low high) }
  where
    edges : (i : ℕ) → edge [] 0 i ≤ edge [] 0 (suc i)
    edges zero = omega arith
    edges (suc i) = omega arith

    none : (i x : ℕ) → edge [] 0 i ≤ x → x < edge [] 0 (suc i) → ⊥
    none i x low high = omega arith

pub lay-on :
    (l : List ℕ) (at to : ℕ) (u : Subset) → Lay l at u → at ≤ to
    → ((x : ℕ) → at ≤ x → x < to → bit (u x) ≡ length l % 2) → Lay l to u
lay-on l at to u lay on after = record { order = order; alike = alike }
  where
    last : edge l at (suc (length l)) ≡ at
    last = edge-past l at (suc (length l)) (omega arith)

    order : (i : ℕ) → edge l to i ≤ edge l to (suc i)
    order i =
        ⊎_elim
        (λ (p : suc (length l) ≤ i).
        omega (arith, edge-past l to i (omega arith), edge-past l to (suc i) (omega arith)))
        (λ (q : i < suc (length l)).
        ⊎_elim
        (λ (e : suc i ≡ suc (length l)).
        let z : edge l at (suc i) ≡ at = edge-past l at (suc i) (omega arith) in
        omega (arith, edge-within l to at i (omega arith), lay.order i, edge-past l to (suc i) (omega arith)))
        (λ (m : suc i < suc (length l)).
        omega (arith, edge-within l to at i (omega arith), edge-within l to at (suc i) (omega arith), lay.order i))
        (eq-or-lt_of_le q))
        (le-or-lt (suc (length l)) i)

    alike : (i x : ℕ) → edge l to i ≤ x → x < edge l to (suc i) → bit (u x) ≡ i % 2
    alike i x low high =
        ⊎_elim
        (λ (p : suc (length l) ≤ i).
        absurd (omega (arith, edge-past l to i (omega arith), edge-past l to (suc i) (omega arith))))
        (λ (q : i < suc (length l)).
        let start : edge l to i ≡ edge l at i = edge-within l to at i (omega arith) in
        ⊎_elim
        (λ (e : suc i ≡ suc (length l)).
        let same : i ≡ length l = omega arith in
        let end : edge l to (suc i) ≡ to = edge-past l to (suc i) (omega arith) in
        let came : edge l at (suc i) ≡ at = edge-past l at (suc i) (omega arith) in
        ⊎_elim
        (λ (late : at ≤ x). after x late (omega arith) ∙ ap (λ n. n % 2) (sym same))
        (λ (early : x < at). lay.alike i x (omega arith) (omega arith))
        (le-or-lt at x))
        (λ (m : suc i < suc (length l)).
        let end : edge l to (suc i) ≡ edge l at (suc i) = edge-within l to at (suc i) (omega arith) in
        lay.alike i x (omega arith) (omega arith))
        (eq-or-lt_of_le q))
        (le-or-lt (suc (length l)) i)

-- ---- a turn and the ticks behind it

pub lay-span :
    {l l' : List ℕ} {n at step r : ℕ} (u : Subset) (to : ℕ) → Turn l n at step r l' → Lay (take n l) at u → r ≤ length l' → at ≤ to
    → ((x : ℕ) → at ≤ x → x < to → bit (u x) ≡ step) → Lay (take r l') to u
lay-span {l} {l'} {n} {at} {step} {r} u to t lay room on after =
    let parity : length (take r l') % 2 ≡ step = ap (λ k. k % 2) (length-take-le r l' room) ∙ t.parity in
    lay-on (take r l') at to u (lay-turn t lay) on (λ x low high. after x low high ∙ sym parity)

-- ---- edges in order

module _ (l : List ℕ) (to : ℕ) (order : (i : ℕ) → edge l to i ≤ edge l to (suc i)) where
  rises-by : (i n : ℕ) → edge l to i ≤ edge l to (i + n)
  rises-by i zero = rw add-zero (le_refl _)
  rises-by i (suc n) = rw add-suc (omega (arith, rises-by i n, order (i + n)))

  pub edge-rises : (i j : ℕ) → i ≤ j → edge l to i ≤ edge l to j
  edge-rises i j less =
      let e : i + (j - i) ≡ j = omega arith in
      rw e at (rises-by i (j - i))

  pub edge-most : (i : ℕ) → edge l to i ≤ to
  edge-most i = omega (arith, rises-by i (suc (length l)), edge-past l to (i + suc (length l)) (omega arith))

-- ---- runs of some set

pub runs-some : (l : List ℕ) (w : ℕ) → Runs l w → (0 < w) × (w ≤ most_ticks)
unfolding Runs
runs-some l w (u, laid) = (laid.wheel.some, laid.most)

pub runs_of : {l : List ℕ} {w : ℕ} {u : Subset} → Laid l w u → Runs l w
unfolding Runs
runs_of {u = u} laid = (u, laid)
