-- One judgement of the wheel that a number of first free slots makes. Assumes nothing.
use mathlib.Core.Path.{◌≡◌}
use mathlib.Core.Logic.{◌↔◌}
use mathlib.Core.Bool.{Bool, true}
use mathlib.Core.List.{List}
use Prim.Native.Nat.{ℕ}
use Rattle.rules.specs.Supply.{Task}
use Rattle.rules.specs.Worst.{Firm}
use Rattle.limits.specs.declared.Grid.{Grid}
use Rattle.limits.proofs.Refusals.{clash}
use Rattle.grants.specs.Grants.{first_ticks, FirmSays}

pub trial-says :
    (l : List ℕ) (g : Grid) (t : Task) (j : ℕ) (b : Bool) → (b ≡ true) ↔ Firm (first_ticks l g j) t → FirmSays l g t j b
trial-says l g t j b agree = record { yes-firm = agree.0; not-firm = λ f firm. clash (agree.1 firm) f }
