-- Strips along a wheel go round in orbits: after a round of strips their places come back. Definitions only.
--
--     Ring m h k           a wheel of bits, a period and a number of strips within the bounds of whole rounds
--     place w s c i        where strip i arrives, of those from tick c on, s ticks apart
--     peak f n             the largest of f 0 to f (n − 1); 0 for n = 0
--     ranked c t           a count and its tick as one number: larger for the larger count, and of equal ones for the earlier tick
--     most_rank            no rank is larger
--     rank_at m s n c i    the rank of n strips from the place of strip i on
--     Lapped m s n r c l   of a round of r strips from tick c on: how many meet a 1, and the largest rank of n strips from one of their places
--     members z g c n      how many of the ticks c, c + g, .., n of them, are in the set z
use Rattle.std.specs.Prelude.{◌≡◌, List, ℕ, zero, suc, ◌+◌, ◌-◌, ◌*◌, ◌%◌, ◌≤◌, ◌<◌, max, length, get_or}
use Rattle.limits.specs.Limits.{most_ticks, most_period, most_in_rounds}
use Rattle.rules.specs.Sums.{Subset, bit, sum}
use Rattle.maps.specs.Maps.{fallen}
use Rattle.orbits.specs.declared.Tour.{Tour}

pub record Ring (m : List ℕ) (h k : ℕ) : Type 0 where
  pub some : 0 < length m
  pub most : length m ≤ most_ticks
  pub period : h ≤ most_period
  pub strips : k ≤ most_in_rounds
  pub bits : (a : ℕ) → get_or m a 0 ≤ 1

abbrev pub place : ℕ → ℕ → ℕ → ℕ → ℕ
place w s c i = (c + i * s) % w

unfoldable pub peak : (ℕ → ℕ) → ℕ → ℕ
peak f zero = 0
peak f (suc n) = max (peak f n) (f n)

abbrev pub ranked : ℕ → ℕ → ℕ
ranked c t = c * most_ticks + (most_ticks - 1 - t)

abbrev pub most_rank : ℕ
most_rank = (most_in_rounds + 1) * most_ticks

unfoldable pub rank_at : List ℕ → ℕ → ℕ → ℕ → ℕ → ℕ
rank_at m s n c i = ranked (fallen m s n (place (length m) s c i)) (place (length m) s c i)

pub record Lapped (m : List ℕ) (s n r c : ℕ) (l : Tour) : Type 0 where
  pub round : l.round ≡ fallen m s r c
  pub top : l.top ≡ peak (rank_at m s n c) r

unfoldable pub members : Subset → ℕ → ℕ → ℕ → ℕ
members z g c n = sum (λ j. bit (z (c + j * g))) n
