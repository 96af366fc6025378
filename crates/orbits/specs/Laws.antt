-- What a round is, shown in proofs/Rounds.antt. Definitions only: the name is a statement.
--
--     RoundIsShortest    after w / g strips places come back, where g is the greatest common divisor of wheel and period, and after no fewer
use Rattle.std.specs.Prelude.{◌≡◌, ℕ, ◌*◌, ◌/◌, ◌%◌, ◌≤◌, ◌<◌}
use Rattle.divisor.specs.Divisor.{Gcd}

abbrev pub RoundIsShortest : Type 0
RoundIsShortest =
    (w h g : ℕ) → 0 < w → Gcd w h g
    → ((w / g * h) % w ≡ 0) × ((n : ℕ) → 0 < n → (n * h) % w ≡ 0 → w / g ≤ n)
