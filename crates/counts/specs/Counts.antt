-- What is counted along runs. Definitions only.
--
--     Counted l w most f s    in every set u that l lays out on a wheel of w ticks, s is f u; s is at most `most`
use Rattle.std.specs.Prelude.{◌≡◌, List, ℕ, ◌≤◌}
use Rattle.rules.specs.Sums.{Subset}
use Rattle.runs.specs.Runs.{Laid}

abbrev pub Counted : List ℕ → ℕ → ℕ → (Subset → ℕ) → ℕ → Type 0
Counted l w most f s = (s ≤ most) × ((u : Subset) → Laid l w u → s ≡ f u)
