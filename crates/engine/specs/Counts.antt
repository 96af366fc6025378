-- Counts of strips along a wheel of bits, kept in a list with an entry for each tick. Definitions only.
--
--     Wheeled z h          z is a wheel of bits within the bounds, and h a step within it
--     Counted z h n x s    x has at each tick the count of n strips from there, and s is how far round n strips take
--     AsLong z x y         x and y are as long as z
--     NoShorter z x y      x and y are as long as z or longer
use Rattle.std.specs.Prelude.{◌≡◌, List, ℕ, ◌*◌, ◌%◌, ◌≤◌, ◌<◌, length, get_or}
use Rattle.limits.specs.Limits.{most_ticks}
use Rattle.maps.specs.Maps.{fallen}

pub record Wheeled (z : List ℕ) (h : ℕ) : Type 0 where
  pub step : h < length z
  pub most : length z ≤ most_ticks
  pub bits : (a : ℕ) → get_or z a 0 ≤ 1

pub record Counted (z : List ℕ) (h n : ℕ) (x : List ℕ) (s : ℕ) : Type 0 where
  pub as_long : length x ≡ length z
  pub at : (t : ℕ) → t < length z → get_or x t 0 ≡ fallen z h n t
  pub round : s ≡ n * h % length z

pub record AsLong (z x y : List ℕ) : Type 0 where
  pub one : length x ≡ length z
  pub other : length y ≡ length z

pub record NoShorter (z x y : List ℕ) : Type 0 where
  pub one : length z ≤ length x
  pub other : length z ≤ length y
