-- A task record as a part of a file, and refusals 1 and 3, tested one by one. Assumes nothing.
use mathlib.Core.Path.{◌≡◌, refl, ap}
use mathlib.Core.Bool.{Bool, true, false, not, ◌||◌}
use mathlib.Core.List.{List}
use Prim.Native.Nat.{ℕ, ◌+◌, ◌-◌, ◌*◌, ◌%◌}
use native.Mathlib.Nat.{zero-lt-suc}
use native.Mathlib.Omega.{arith}
use lib.Dec.{eqb}
use lib.ListN.{length, take, drop}
use borrow.Author.Tests.{eqb-true, not-false}
use Rattle.limits.specs.Refusal.{◌when◌}
use Rattle.limits.proofs.Refusals.{when_true, when_false, when-none, or-false, both_right}
use Rattle.records.specs.Records.{task_bytes, slot_bytes, part}
use Rattle.records.specs.Refusals.{sizes}

-- A part is cut from its first byte to the one behind its last.
pub cut-part : (l : List ℕ) (i : ℕ) → take (task_bytes * i + task_bytes - task_bytes * i) (drop (task_bytes * i) l) ≡ part l i
unfolding part
cut-part l i =
    let e : task_bytes * i + task_bytes - task_bytes * i ≡ task_bytes = omega arith in
    ap (λ n. take n (drop (task_bytes * i) l)) e

pub sizes-good : (t s : List ℕ) → length t ≡ task_bytes → length s % slot_bytes ≡ 0 → 0 ≡ sizes t s
unfolding sizes
sizes-good t s e f = both_right 1 (length t) task_bytes (length s % slot_bytes) 0 e f

-- Refusal 1 is the only one that the sizes give.
pub sizes-one : (t s : List ℕ) → (sizes t s ≡ 0 → ⊥) → sizes t s ≡ 1
unfolding sizes
sizes-one t s = go (not (eqb (length t) task_bytes) || not (eqb (length s % slot_bytes) 0))
  where
    go : (b : Bool) → ((1 when b) ≡ 0 → ⊥) → (1 when b) ≡ 1
    go true n = when_true 1 true refl
    go false n = absurd (n (when_false 1 false refl))

pub sizes-long : (t s : List ℕ) → sizes t s ≡ 0 → length t ≡ task_bytes
unfolding sizes
sizes-long t s e =
    eqb-true (length t) task_bytes
    (not-false (eqb (length t) task_bytes) (or-false _ _ (when-none 1 _ (zero-lt-suc 0) e)).0)
