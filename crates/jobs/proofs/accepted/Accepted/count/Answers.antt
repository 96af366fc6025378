-- `Accepted::count` meets its contract: what holds of every set of ticks that the runs lay out holds of the job's. Assumes nothing.
use Rattle.std.proofs.Common.{rules}
use Rattle.room.proofs.Handed.{tallied}
use Rattle.jobs.proofs.accepted.Accepted.count.Goals as goal

pub returns : goal.returns
returns c = search (rules, tallied)
