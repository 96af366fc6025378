-- Behind the number of slots stands the walk (proofs/Walk.antt).
use Rattle.records.proofs.Walk.{table_walk}
use Rattle.records.proofs.board.table.Goals as goal

pub returns : goal.returns
returns c = table_walk _ _ _ c.in_ok-when.ensures.0 c.first_bad.ensures
