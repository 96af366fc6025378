-- The running total of usable ticks, and the wheels it runs over: the laws WholeTurns and SlotsTurn. (Windows is in Straight.)
--
-- A window of one whole turn holds the same wherever it starts, since it loses and gains the same tick as it moves on.
-- Assumes nothing.
use mathlib.Core.Path.{◌≡◌, ap}
use mathlib.Core.Bool.{◌&&◌}
use Prim.Native.Nat.{ℕ, zero, suc, ◌+◌, ◌*◌}
use native.Mathlib.Nat.{add-zero, zero-mul, suc-mul, add-mod_right}
use native.Mathlib.Numerals.{add-one}
use native.Mathlib.Omega.{arith}
use Rattle.rules.specs.Sums.{Subset, bit, number, any}
use Rattle.rules.specs.Supply.{supply}
use Rattle.rules.specs.Usable.{covers, opens, usable}
use Rattle.rules.specs.Worst.{Wheel}
use Rattle.rules.specs.Laws.{WholeTurns, SlotsTurn}
use Rattle.rules.proofs.Sums.{number-none}
use Rattle.rules.proofs.Straight.{windows, supply-next}

one-turn : (w : ℕ) (u : Subset) → Wheel w u → (x : ℕ) → supply 1 u w x ≡ number u w
one-turn w u wheel zero =
    let e : number u (0 + w) ≡ number u w = ap (number u) (omega arith) in
    omega (arith, windows u w 0, number-none u)
one-turn w u wheel (suc x) =
    let e : supply 1 u w (x + 1) ≡ supply 1 u w (suc x) = ap (supply 1 u w) (add-one x) in
    omega (arith, supply-next u w x, ap bit (wheel.turns x), one-turn w u wheel x)

pub whole-turns : WholeTurns
whole-turns w u wheel zero x = rw (zero-mul w, zero-mul (number u w), add-zero x, add-zero (number u x))
whole-turns w u wheel (suc n) x =
    let e : number u (x + suc n * w) ≡ number u (x + n * w + w) = ap (number u) (rw suc-mul (omega arith)) in
    omega (arith, windows u w (x + n * w), one-turn w u wheel (x + n * w), whole-turns w u wheel n x, suc-mul n (number u w))

pub slots-turn : SlotsTurn
unfolding usable
slots-turn w s pos =
    record {
      some = pos;
      turns = λ x. ap (λ y. any (λ i. s.ours i && covers (opens w s i) (s.slot i).end y) s.size) (add-mod_right x w);
    }
