-- The job's slots are laid out as runs, and the question is asked of the job's own.
use Rattle.std.proofs.Common.{refl, arith}
use Rattle.rounds.proofs.Found.{own-runs}
use Rattle.rounds.proofs.work.asked.Goals as goal

pub returns : goal.returns
returns g c = (_, _, c.ask.ensures, own-runs (omega arith) c.singly.ensures.0 c.singly.ensures.1 c.lay-n.ensures, refl)
