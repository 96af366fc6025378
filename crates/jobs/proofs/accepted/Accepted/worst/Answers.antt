-- `Accepted::worst` meets its contract: what holds of every set of ticks that the runs lay out holds of the job's. Assumes nothing.
use Rattle.std.proofs.Common.{rules}
use Rattle.room.specs.Room.{Found}
use Rattle.room.proofs.Handed.{found}
use Rattle.jobs.proofs.accepted.Accepted.worst.Goals as goal

pub returns : goal.returns
returns c =
    let ran = c.asked.ensures in
    let all : Found ran.0.edges.now ran.0.w c.args.self.job.task c.asked.result = search rules in
    rw ran.2.wheel at (found _ _ _ _ all _ ran.2.laid)
