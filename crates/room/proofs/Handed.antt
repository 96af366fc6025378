-- Runs that were laid out in a buffer have no more edges than it has places, and what the room answers holds of each set of ticks that they
-- lay out. Assumes nothing.
use mathlib.Core.Path.{◌≡◌}
use mathlib.Core.Logic.{◌↔◌}
use mathlib.Core.Bool.{Bool, true}
use mathlib.Core.List.{List}
use Prim.Native.Nat.{ℕ, ◌≤◌}
use native.Mathlib.Omega.{arith}
use lib.ListN.{length, take}
use lib.Seq.{length-take-le}
use Rattle.rules.specs.Sums.{Subset}
use Rattle.rules.specs.Supply.{count}
use Rattle.rules.specs.Worst.{Worst, Firm}
use Rattle.rules.specs.Least.{Least}
use Rattle.limits.specs.Limits.{asked}
use Rattle.limits.specs.declared.Task.{Task}
use Rattle.runs.specs.Runs.{Laid, Runs, LaidIn}
use Rattle.runs.proofs.Edges.{runs_of}
use Rattle.room.specs.Room.{Foremost, Nearest, Found, Decides, Tallied}
use Rattle.room.specs.declared.Peak.{Peak}

pub handed :
    {l l' : List ℕ} {n w most : ℕ} {u : Subset} → LaidIn l l' n w u → length l ≤ most
    → Runs (take n l') w × (length (take n l') ≤ most)
handed {l} {l'} {n} laid long =
    (runs_of laid.laid, omega (arith, length-take-le n l' laid.room, laid.room, laid.long))

pub found :
    (l : List ℕ) (w : ℕ) (t : Task) (r : Peak) → Found l w t r → (u : Subset) → Laid l w u
    → Worst w u (asked t) r.drops r.offset × Least w u (asked t) r.margin
unfolding Foremost Nearest
found l w t r f u laid = (f.0 u laid, f.1 u laid)

pub decided :
    (l : List ℕ) (w : ℕ) (t : Task) (b : Bool) → Decides l w t b → (u : Subset) → Laid l w u → (b ≡ true) ↔ Firm u (asked t)
unfolding Decides
decided l w t b f = f

pub tallied :
    (l : List ℕ) (w : ℕ) (t : Task) (x c : ℕ) → Tallied l w t x c → (u : Subset) → Laid l w u → c ≡ count 2 u (asked t) x
unfolding Tallied
tallied l w t x c f = f
