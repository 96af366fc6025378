-- The measure is the number of strips, k.
use Rattle.engine.proofs.count.+words.Given as goal

abbrev pub decreases-words : goal.decreases-words
decreases-words l = l.k
