-- `cases::read::numbers` ends: a character and its number go from the text each time. Assumes nothing.
use Rattle.std.proofs.Common.{length}
use Rattle.cases.proofs.read.numbers.Given as goal

abbrev pub decreases-loop-key : goal.decreases-loop-key
decreases-loop-key l = length l.rest
