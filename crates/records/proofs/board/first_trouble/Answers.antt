-- Behind the other checks stands the table (proofs/Walk.antt).
use Rattle.records.proofs.Walk.{board_table}
use Rattle.records.proofs.board.first_trouble.Goals as goal

pub returns : goal.returns
returns c = board_table _ _ c.in_ok-range.ensures.0 c.in_ok-id_refusal.ensures.0 _ c.in_ok-wheel.ensures c.table.ensures
