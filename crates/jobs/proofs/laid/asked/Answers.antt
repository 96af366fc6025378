-- `jobs::laid::asked` meets its contract: the question is asked of the job's own runs. Assumes nothing.
use Rattle.std.proofs.Common.{refl}
use Rattle.room.proofs.Handed.{handed}
use Rattle.jobs.proofs.laid.asked.Goals as goal

pub returns : goal.returns
returns g c =
    let laid = c.lay-n.ensures in
    (_, c.ask.ensures, record { laid = laid.laid; wheel = refl; few = (handed laid c.requires.holds.most).1 })
