-- docs/RULES.md, "The least margin": of a wheel and a task. Definitions only.
--
--     Least w u t l    l is the least margin over every fraction p/q, in whole ticks
--     grown n t        the task t with n more ticks of need
--     Painted u t      no fraction p/q drops a strip
--
-- A margin at p/q counts units of 1/q, so q times l bounds it. Between two ticks supply is straight: the least margin is that of a whole tick.
use Rattle.std.specs.Prelude.{◌≡◌, false, ℕ, ◌+◌, ◌<◌, ℤ, pos, ◌*ℤ◌, ◌≤ℤ◌}
use Rattle.rules.specs.Sums.{Subset}
use Rattle.rules.specs.Supply.{Task, margin, dropped}

pub record Least (w : ℕ) (u : Subset) (t : Task) (l : ℤ) : Type 0 where
  pub bound : (q p : ℕ) → 0 < q → (pos q *ℤ l) ≤ℤ margin q u t p
  pub place : ℕ
  pub inside : place < w
  pub hit : margin 1 u t place ≡ l

unfoldable pub grown : ℕ → Task → Task
grown n t = record { e = t.e + n; D = t.D; h = t.h; m = t.m; k = t.k }

unfoldable pub Painted : Subset → Task → Type 0
Painted u t = (q p : ℕ) → 0 < q → dropped q u t p ≡ false
