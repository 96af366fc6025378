-- The greatest common divisor. Definitions only.
--
--     Gcd a b g    g divides a and b, and whatever divides both divides g
--
-- Every number divides 0, and 0 divides nothing else: the greatest common divisor of 0 and 0 is 0.
use Rattle.std.specs.Prelude.{ℕ}
use Rattle.std.specs.Int.{◌∣◌}

pub record Gcd (a b g : ℕ) : Type 0 where
  pub left : g ∣ a
  pub right : g ∣ b
  pub greatest : (d : ℕ) → d ∣ a → d ∣ b → d ∣ g
