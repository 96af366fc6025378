-- Places in runs: a cursor that comes to an edge moves on by one run.
--
-- In order: where a tick lies; a cursor on its way; a part of the runs. Assumes nothing.
use mathlib.Core.Path.{◌≡◌, refl, ap, ◌∙◌}
use mathlib.Core.Logic.{⊎_elim}
use mathlib.Core.List.{List}
use Prim.Native.Nat.{ℕ, zero, suc, ◌+◌, ◌≤◌, ◌<◌, zero-le}
use native.Mathlib.Numerals.{add-one}
use native.Mathlib.Omega.{arith}
use lib.ListN.{length, get_or, take}
use lib.Seq.{get_or-take, length-take-le}
use Rattle.rules.specs.Sums.{Subset}
use Rattle.rules.proofs.Sums.{le-or-lt}
use Rattle.runs.specs.Runs.{edge, Lay}
use Rattle.runs.proofs.Edges.{edge-within, edge-read, edge-past}
use Rattle.late.specs.Late.{Cursor, Passed}

-- ---- where a tick lies

-- Run i ends behind tick x or at it, and no run before does.
pub cursor-found :
    (l : List ℕ) (w x i : ℕ) → i ≤ length l → ((k : ℕ) → k < i → get_or l k 0 < x) → x ≤ edge l w (suc i) → Cursor l w i x
unfolding edge
cursor-found l w x zero some before behind = record { low = zero-le; high = behind }
cursor-found l w x (suc i) some before behind =
    record { low = omega (arith, before i (omega arith), edge-read l w i (omega arith)); high = behind }

-- ---- a cursor on its way

-- Before the end of the wheel a cursor is within the list.
pub cursor-inside : (l : List ℕ) (to i x : ℕ) → edge l to i ≤ x → x < to → i ≤ length l
cursor-inside l to i x low less =
    ⊎_elim
    (λ (h : i ≤ length l). h)
    (λ (h : length l < i). absurd (omega (arith, edge-past l to i h)))
    (le-or-lt i (length l))

pub edge-first : (l : List ℕ) (to : ℕ) → edge l to 0 ≡ 0
unfolding edge
edge-first l to = refl

pub cursor-moves :
    {l : List ℕ} {to i at end r : ℕ} {u : Subset} → Lay l to u → edge l to i ≤ at → at ≤ end → end ≡ edge l to (suc i)
    → Passed i at end r → Cursor l to r at
cursor-moves {l} {to} {i} {at} {end} {r} lay low high e p =
    ⊎_elim
    (λ (h : (at ≡ end) × (r ≡ i + 1)).
    let same : r ≡ suc i = h.1 ∙ add-one i in
    rw same
    (record { low = omega (arith, h.0); high = omega (arith, h.0, lay.order (suc i)) }))
    (λ (h : (at ≡ end → ⊥) × (r ≡ i)).
    rw h.1 (record { low = low; high = omega arith }))
    p

-- ---- a part of the runs

edge-taken : (l : List ℕ) (to i k : ℕ) → k ≤ i → edge (take i l) to k ≡ edge l to k
unfolding edge
edge-taken l to i zero h = refl
edge-taken l to i (suc k) h = get_or-take i l k to (omega arith)

-- The runs before a cursor's place.
pub lay-before : {l : List ℕ} {to i at : ℕ} {u : Subset} → Lay l to u → Cursor l to i at → i ≤ length l → Lay (take i l) at u
lay-before {l} {to} {i} {at} {u} lay c within =
    record {
      order = λ k.
          ⊎_elim
          (λ (h : suc i ≤ k). omega (arith, past k h, past (suc k) (omega arith)))
          (λ (h : k < suc i).
          ⊎_elim
          (λ (g : suc i ≤ suc k).
          let e : edge l to k ≡ edge l to i = ap (edge l to) (omega arith) in
          omega (arith, same k (omega arith), past (suc k) g, c.low))
          (λ (g : suc k < suc i). omega (arith, same k (omega arith), same (suc k) (omega arith), lay.order k))
          (le-or-lt (suc i) (suc k)))
          (le-or-lt (suc i) k);
      alike = λ k x low high.
          ⊎_elim
          (λ (h : suc i ≤ k). absurd (omega (arith, past k h, past (suc k) (omega arith))))
          (λ (h : k < suc i).
          lay.alike k x (omega (arith, same k (omega arith)))
          (⊎_elim
          (λ (g : suc i ≤ suc k).
          let e : edge l to (suc k) ≡ edge l to (suc i) = ap (edge l to) (omega arith) in
          omega (arith, past (suc k) g, c.high))
          (λ (g : suc k < suc i). omega (arith, same (suc k) (omega arith)))
          (le-or-lt (suc i) (suc k))))
          (le-or-lt (suc i) k);
    }
  where
    long : length (take i l) ≡ i
    long = length-take-le i l within

    past : (k : ℕ) → suc i ≤ k → edge (take i l) at k ≡ at
    past k h = edge-past (take i l) at k (omega (arith, long))

    same : (k : ℕ) → k ≤ i → edge (take i l) at k ≡ edge l to k
    same k h = edge-within (take i l) at to k (omega (arith, long)) ∙ edge-taken l to i k h
