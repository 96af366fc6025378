-- What holds of every set of ticks that the runs lay out holds of the job's.
use Rattle.std.proofs.Common.{rules}
use Rattle.room.specs.Room.{Found}
use Rattle.room.proofs.Handed.{found}
use Rattle.rounds.proofs.work.worst.Goals as goal

pub returns : goal.returns
returns c =
    let ran = c.asked.ensures in
    let all : Found ran.0.now.runs.edges.now ran.0.now.runs.w c.args.job.task c.asked.result = search rules in
    rw ran.3.wheel at (found _ _ _ _ all _ ran.3.laid)
