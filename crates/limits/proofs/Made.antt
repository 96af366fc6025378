-- What is known of numbers with no refusal, so of a value that was made. Assumes nothing.
use mathlib.Core.Path.{◌≡◌}
use Prim.Native.Nat.{ℕ, ◌*◌, ◌≤◌, ◌<◌}
use native.Mathlib.Nat.{zero-lt-suc, mul-pos}
use native.Mathlib.Omega.{arith}
use borrow.Author.Tests.{ltb-false, eqb-false}
use Rattle.limits.specs.Limits.{most_ticks, most_need, most_period, most_strips, most_in_rounds, most_granted}
use Rattle.limits.specs.Limits.{wheel_refusal, task_refusal, rounds_refusal, grid_refusal, task_of, Within}
use Rattle.limits.proofs.Refusals.{both-none, when-none, or-false, inside}

-- ---- what no refusal means

pub wheel-within : (w : ℕ) → wheel_refusal w ≡ 0 → (0 < w) × (w ≤ most_ticks)
unfolding wheel_refusal
wheel-within w e = inside w most_ticks (when-none 4 _ (zero-lt-suc 3) e)

pub task-within : (e D h m k : ℕ) → task_refusal e D h m k ≡ 0 → Within (task_of e D h m k)
unfolding task_refusal
task-within e D h m k none =
    let six = both-none _ _ none in
    let seven = both-none _ _ six.1 in
    let eight = both-none _ _ seven.1 in
    let nine = both-none _ _ eight.1 in
    let need = inside e most_need (when-none 6 _ (zero-lt-suc 5) six.0) in
    let period = inside h most_period (when-none 7 _ (zero-lt-suc 6) seven.0) in
    let deadline = inside D h (when-none 8 _ (zero-lt-suc 7) eight.0) in
    let strips = inside k most_strips (when-none 9 _ (zero-lt-suc 8) nine.0) in
    record {
      asks = need.0;
      need = need.1;
      deadline = omega (arith, deadline.1, period.1);
      period = period.1;
      some = strips.0;
      strips = strips.1;
      painted = ltb-false k m (when-none 10 _ (zero-lt-suc 9) nine.1);
    }

pub rounds-within : (m k : ℕ) → rounds_refusal m k ≡ 0 → (0 < k) × (k ≤ most_in_rounds) × (m ≤ k)
unfolding rounds_refusal
rounds-within m k none =
    let nine = both-none _ _ none in
    let strips = inside k most_in_rounds (when-none 9 _ (zero-lt-suc 8) nine.0) in
    (strips.0, strips.1, ltb-false k m (when-none 10 _ (zero-lt-suc 9) nine.1))

pub record GridWithin (N v loss : ℕ) : Type 0 where
  pub some : 0 < N
  pub number : N ≤ most_granted
  pub long : 0 < v
  pub ticks : 0 < N * v
  pub most : N * v ≤ most_ticks
  pub short : loss ≤ v

pub grid-within : (N v loss : ℕ) → grid_refusal N v loss ≡ 0 → GridWithin N v loss
unfolding grid_refusal
grid-within N v loss none =
    let all = or-false _ _ (when-none 12 _ (zero-lt-suc 11) none) in
    let parts = or-false _ _ all.0 in
    let first = or-false _ _ parts.0 in
    let slots = inside N most_granted first.0 in
    let n : ¬ (v ≡ 0) = eqb-false v 0 first.1 in
    let long : 0 < v = omega arith in
    record {
      some = slots.0;
      number = slots.1;
      long = long;
      ticks = mul-pos slots.0 long;
      most = ltb-false _ _ parts.1;
      short = ltb-false _ _ all.1;
    }
