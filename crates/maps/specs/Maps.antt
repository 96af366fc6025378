-- A wheel as a list of bits, an entry for each tick, and strips along it. Definitions only.
--
--     Drawn m z              m has 1 at each tick of the set z, 0 at the others
--     Stretched m m' a b v   m has become m': v in the ticks from a to b, those before a as they were
--     Mapped l m             m is drawn from the runs l of some set of ticks
--     strips f w h n t       the sum of f over n ticks of a wheel of w, from t on in steps of h
--     met w z h k p          how many of k strips from tick p on, in steps of h, meet a tick of the set z
--     fallen m h k p         how many of k strips from tick p on meet a 1
--     Top m h k c t          c is the largest such number, t the first tick that has it
--     Sized m h k            a wheel of bits, a period and a number of strips within the bounds
use Rattle.std.specs.Prelude.{◌≡◌, List, ℕ, ◌+◌, ◌*◌, ◌%◌, ◌≤◌, ◌<◌, length, get_or}
use Rattle.limits.specs.Limits.{most_ticks, most_period, most_strips}
use Rattle.rules.specs.Sums.{Subset, bit, sum, Largest}
use Rattle.runs.specs.Runs.{Laid}

pub record Drawn (m : List ℕ) (z : Subset) : Type 0 where
  pub at : (a : ℕ) → a < length m → get_or m a 0 ≡ bit (z a)

pub record Stretched (m m' : List ℕ) (from to value : ℕ) : Type 0 where
  pub long : length m' ≡ length m
  pub kept : (a : ℕ) → a < from → get_or m' a 0 ≡ get_or m a 0
  pub filled : (a : ℕ) → from ≤ a → a < to → get_or m' a 0 ≡ value

unfoldable pub Mapped : List ℕ → List ℕ → Type 0
Mapped l m = (z : Subset) × Laid l (length m) z × Drawn m z

unfoldable pub strips : (ℕ → ℕ) → ℕ → ℕ → ℕ → ℕ → ℕ
strips f w h n t = sum (λ i. f ((t + i * h) % w)) n

unfoldable pub met : ℕ → Subset → ℕ → ℕ → ℕ → ℕ
met w z h k p = strips (λ a. bit (z a)) w h k p

unfoldable pub fallen : List ℕ → ℕ → ℕ → ℕ → ℕ
fallen m h k p = strips (λ a. get_or m a 0) (length m) h k p

abbrev pub Top : List ℕ → ℕ → ℕ → ℕ → ℕ → Type 0
Top m h k c t = Largest (fallen m h k) (length m) c t

pub record Sized (m : List ℕ) (h k : ℕ) : Type 0 where
  pub some : 0 < length m
  pub most : length m ≤ most_ticks
  pub period : h ≤ most_period
  pub strips : k ≤ most_strips
  pub bits : (a : ℕ) → get_or m a 0 ≤ 1
