-- docs/RULES.md, "Granting slots". Definitions only.
--
--     first free j                 the first j free slots in number order; all of them where there are fewer
--     grid_ticks N v loss g        the usable ticks of a wheel of N slots of v ticks, of which those in g are the painter's
--     Granted N v loss free t j    j is the grant: the first j free slots are firm, and no smaller number is
--     NoChoice N v loss free t     refusal 13: no set of free slots is firm
use Rattle.std.specs.Prelude.{◌≡◌, true, ◌&&◌, ℕ, ◌*◌, ◌≤◌, ◌<◌, ltb}
use Rattle.rules.specs.Sums.{Subset, number}
use Rattle.rules.specs.Supply.{Task}
use Rattle.rules.specs.Usable.{usable, grid}
use Rattle.rules.specs.Worst.{Firm}

unfoldable pub first : Subset → ℕ → Subset
first free j i = free i && ltb (number free i) j

unfoldable pub grid_ticks : ℕ → ℕ → ℕ → Subset → Subset
grid_ticks N v loss g = usable (N * v) (grid N v loss g)

pub record Granted (N v loss : ℕ) (free : Subset) (t : Task) (j : ℕ) : Type 0 where
  pub enough : j ≤ number free N
  pub firm : Firm (grid_ticks N v loss (first free j)) t
  pub smallest : (i : ℕ) → Firm (grid_ticks N v loss (first free i)) t → j ≤ i

unfoldable pub NoChoice : ℕ → ℕ → ℕ → Subset → Task → Type 0
NoChoice N v loss free t =
    (g : Subset) → ((i : ℕ) → i < N → g i ≡ true → free i ≡ true) → Firm (grid_ticks N v loss g) t → ⊥
