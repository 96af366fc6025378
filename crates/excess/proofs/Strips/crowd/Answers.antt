-- The products fit, and the late ticks are those of every set that the runs lay out.
use Rattle.std.proofs.Common.{arith}
use Rattle.std.proofs.lemmas.Bool.Decides.{nat_tests}
use Rattle.excess.specs.Excess.{Crowds}
use Rattle.excess.proofs.Strips.crowd.Goals as goal

pub returns : goal.returns
unfolding Crowds
returns c more z laid = let late = c.below.ensures.1 z laid in grind (arith, nat_tests)
