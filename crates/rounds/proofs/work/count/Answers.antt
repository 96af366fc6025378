-- What holds of every set of ticks that the runs lay out holds of the job's.
use Rattle.std.proofs.Common.{rules}
use Rattle.room.proofs.Handed.{tallied}
use Rattle.rounds.proofs.work.count.Goals as goal

pub returns : goal.returns
returns c = search (rules, tallied)
