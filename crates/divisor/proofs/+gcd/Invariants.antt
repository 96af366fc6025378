-- The measure is the second number: a remainder is less than its divisor.
use Rattle.divisor.proofs.+gcd.Given as goal

abbrev pub decreases-gcd : goal.decreases-gcd
decreases-gcd l = l.b
