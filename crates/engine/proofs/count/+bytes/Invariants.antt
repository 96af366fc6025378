-- The measure is the number of strips, k.
use Rattle.engine.proofs.count.+bytes.Given as goal

abbrev pub decreases-bytes : goal.decreases-bytes
decreases-bytes l = l.k
