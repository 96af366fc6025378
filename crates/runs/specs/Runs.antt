-- A set of ticks on a wheel as a short sorted list of edges: out of the set and in it by turns, starting with out of it at 0. Definitions only.
--
--     edge l to i              where run i starts: run 0 at 0, run i + 1 at entry i; what the list lacks is read as `to`
--     Lay l to u               up to tick `to` the runs of l are those of u: even runs out of it, odd ones in it
--     Laid l w u               the same of a whole wheel within its bound
--     Runs l w                 l lays out some set of ticks of a wheel of w ticks
--     Ordered l w              what that comes to: a wheel within its bound, and edges in order within it (runs_in and runs_ordered)
--     LaidIn l l' r w u        a buffer l that has become l': as long as before, and its first r entries lay out u
--     Turn l n at step r l'    the first r entries of l' are the first n of l, with an edge at `at` where the parity of n isn't step
--
-- A wheel with no edges has an empty set. An odd number of edges runs on to w. Two edges at one place make a run without ticks.
use Rattle.std.specs.Prelude.{◌≡◌, List, ℕ, zero, suc, ◌+◌, ◌%◌, ◌≤◌, ◌<◌, length, get_or, take}
use Rattle.limits.specs.Limits.{most_ticks}
use Rattle.rules.specs.Sums.{Subset, bit}
use Rattle.rules.specs.Worst.{Wheel}

unfoldable pub edge : List ℕ → ℕ → ℕ → ℕ
edge l to zero = 0
edge l to (suc i) = get_or l i to

pub record Lay (l : List ℕ) (to : ℕ) (u : Subset) : Type 0 where
  pub order : (i : ℕ) → edge l to i ≤ edge l to (suc i)
  pub alike : (i x : ℕ) → edge l to i ≤ x → x < edge l to (suc i) → bit (u x) ≡ i % 2

pub record Laid (l : List ℕ) (w : ℕ) (u : Subset) : Type 0 where
  pub wheel : Wheel w u
  pub most : w ≤ most_ticks
  pub lay : Lay l w u

unfoldable pub Runs : List ℕ → ℕ → Type 0
Runs l w = (u : Subset) × Laid l w u

pub record Ordered (l : List ℕ) (w : ℕ) : Type 0 where
  pub some : 0 < w
  pub most : w ≤ most_ticks
  pub order : (i : ℕ) → edge l w i ≤ edge l w (suc i)

pub record LaidIn (l l' : List ℕ) (r w : ℕ) (u : Subset) : Type 0 where
  pub long : length l' ≡ length l
  pub room : r ≤ length l'
  pub laid : Laid (take r l') w u

pub record Turn (l : List ℕ) (n at step r : ℕ) (l' : List ℕ) : Type 0 where
  pub long : length l' ≡ length l
  pub low : n ≤ r
  pub high : r ≤ n + 1
  pub parity : r % 2 ≡ step
  pub same : (i : ℕ) → edge (take r l') at i ≡ edge (take n l) at i
