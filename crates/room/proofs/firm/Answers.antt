-- `room::firm` meets its contract: with m 0 every table is firm (proofs/Verdicts.antt). Assumes nothing.
use Rattle.room.proofs.Verdicts.{decides-all}
use Rattle.room.proofs.firm.Goals as goal

pub returns-then-task-eq0 : goal.returns-then-task-eq0
returns-then-task-eq0 c = decides-all _ _ _ c.if-task-eq0.true
