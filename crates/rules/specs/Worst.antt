-- docs/RULES.md, rules 6 and 7: the worst count, the worst offset, and firm. Definitions only.
--
--     Wheel w u          the set u of ticks repeats every w ticks, w at least 1
--     Worst w u t c o    c is the worst count and o the worst offset in half ticks
--     Firm u t           no fraction p/q drops more than k − m
--     firm_test t c      rule 7's test on a worst count c
--
-- p/q is any fraction of a tick, p from 0 without end. k − m is a difference of whole numbers: an accepted task has m at most k.
use Rattle.std.specs.Prelude.{◌≡◌, Bool, ℕ, ◌+◌, ◌-◌, ◌*◌, ◌≤◌, ◌<◌, leb}
use Rattle.rules.specs.Sums.{Subset}
use Rattle.rules.specs.Supply.{Task, count}

pub record Wheel (w : ℕ) (u : Subset) : Type 0 where
  pub some : 0 < w
  pub turns : (x : ℕ) → u (x + w) ≡ u x

-- Rule 6: the largest count over all p/q, and the smallest half tick from 0 to 2w − 1 with that count.
pub record Worst (w : ℕ) (u : Subset) (t : Task) (c o : ℕ) : Type 0 where
  pub bound : (q p : ℕ) → 0 < q → count q u t p ≤ c
  pub inside : o < 2 * w
  pub hit : count 2 u t o ≡ c
  pub least : (x : ℕ) → count 2 u t x ≡ c → o ≤ x

-- Rule 7, as the desk reads it.
unfoldable pub Firm : Subset → Task → Type 0
Firm u t = (q p : ℕ) → 0 < q → count q u t p ≤ t.k - t.m

-- Rule 7, as it is tested.
unfoldable pub firm_test : Task → ℕ → Bool
firm_test t c = leb c (t.k - t.m)
