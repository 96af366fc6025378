-- A late run comes over the wheel's end where the tests before have failed: the entry behind it opens.
use Rattle.std.proofs.Common.{arith, refl, inr}
use Rattle.runs.specs.Runs.{edge}
use Rattle.excess.proofs.opening.Goals as goal

pub returns : goal.returns
unfolding edge
returns c =
    inr (refl, record { odd = omega arith; more = omega arith; first = omega arith; last = omega (arith, c.end.ensures) })
