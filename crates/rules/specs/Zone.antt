-- docs/RULES.md, rule 8: miss zones and the offsets they make worth looking at. Definitions only.
--
--     ZoneStart w u t a    a miss zone starts at tick a of the wheel
--     back w a x           (a − x) modulo w, for a below w
--     Candidate w u t o    half tick o lies half a tick after (a − n × h) modulo w, for a zone start a and an n below k
--
-- Differs from document 004, chapter 4, in that a zone doesn't contain its left end.
use Rattle.std.specs.Prelude.{◌≡◌, true, false, ℕ, ◌+◌, ◌-◌, ◌*◌, ◌%◌, ◌<◌}
use Rattle.rules.specs.Sums.{Subset}
use Rattle.rules.specs.Supply.{Task, dropped}

-- A strip at a is painted and one at a + ½ is dropped.
pub record ZoneStart (w : ℕ) (u : Subset) (t : Task) (a : ℕ) : Type 0 where
  pub inside : a < w
  pub painted : dropped 2 u t (2 * a) ≡ false
  pub missed : dropped 2 u t (2 * a + 1) ≡ true

unfoldable pub back : ℕ → ℕ → ℕ → ℕ
back w a x = (a + (w - x % w)) % w

pub record Candidate (w : ℕ) (u : Subset) (t : Task) (o : ℕ) : Type 0 where
  pub a : ℕ
  pub n : ℕ
  pub zone : ZoneStart w u t a
  pub strip : n < t.k
  pub after : o ≡ 2 * back w a (n * t.h) + 1
