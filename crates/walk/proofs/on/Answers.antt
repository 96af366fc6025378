-- Arrays for N ticks. Assumes nothing.
use Rattle.walk.proofs.on.Goals as goal

pub invariant_of-arrays : goal.invariant_of-arrays
invariant_of-arrays g c = record { bound = c.requires.2 }
