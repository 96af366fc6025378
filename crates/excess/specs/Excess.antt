-- Whether a count of strips passes an allowance, over runs of late ticks. Definitions only.
--
--     Lit l w p b            b is 1 where tick p is in every set that the runs l lay out on w ticks, 0 where it is in none
--     Met l w s n p c        c of n strips from tick p on, s ticks apart, meet such a set
--     start_of l w i         where the late run of entry i starts; the wheel's end is tick 0
--     Wraps l w              a late run comes over the wheel's end to tick 0, and another one starts
--     Opens l w i            entry i is the first zone start's: 2 behind such a run, else 0
--     Crowds l w k a         k strips from each tick of the wheel together meet more late ticks than a for each
--     Above w z h k a        from some tick on more than a of k strips meet the set z
--     Says l w h k a f       what was found: from some tick on more than a of k strips meet a late tick, from none, or nothing is said
use Rattle.std.specs.Prelude.{◌≡◌, ◌⊎◌, List, ℕ, ◌-◌, ◌*◌, ◌%◌, ◌≤◌, ◌<◌, length, get_or}
use Rattle.rules.specs.Sums.{Subset, bit, number}
use Rattle.runs.specs.Runs.{Laid}
use Rattle.maps.specs.Maps.{met}
use Rattle.excess.specs.declared.Outcome.{Outcome}
use Rattle.excess.specs.declared.Outcome.TheVariants as outcome

pub record Lit (l : List ℕ) (w p b : ℕ) : Type 0 where
  pub each : (z : Subset) → Laid l w z → b ≡ bit (z p)

pub record Met (l : List ℕ) (w s n p c : ℕ) : Type 0 where
  pub each : (z : Subset) → Laid l w z → c ≡ met w z s n p

unfoldable pub start_of : List ℕ → ℕ → ℕ → ℕ
start_of l w i = get_or l i w % w

-- An odd number of edges leaves the last tick late, where the last edge lies before it.
pub record Wraps (l : List ℕ) (w : ℕ) : Type 0 where
  pub odd : length l % 2 ≡ 1
  pub more : 2 < length l
  pub first : get_or l 0 0 ≡ 0
  pub last : get_or l (length l - 1) w < w

abbrev pub Opens : List ℕ → ℕ → ℕ → Type 0
Opens l w i = (i ≡ 0) ⊎ ((i ≡ 2) × Wraps l w)

unfoldable pub Crowds : List ℕ → ℕ → ℕ → ℕ → Type 0
Crowds l w k a = (z : Subset) → Laid l w z → a * w < k * number z w

pub record Above (w : ℕ) (z : Subset) (h k a : ℕ) : Type 0 where
  pub place : ℕ
  pub inside : place < w
  pub passes : a < met w z h k place

abbrev pub Says : List ℕ → ℕ → ℕ → ℕ → ℕ → Outcome → Type 0
Says l w h k a outcome.Passed = (z : Subset) → Laid l w z → Above w z h k a
Says l w h k a outcome.Never = (z : Subset) → Laid l w z → (p : ℕ) → p < w → met w z h k p ≤ a
Says l w h k a outcome.Spent = Unit {0}
