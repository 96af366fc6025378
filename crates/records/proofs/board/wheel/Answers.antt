-- A board with no trouble has a good wheel (proofs/Walk.antt).
use Rattle.std.proofs.Common.{sym}
use Rattle.limits.proofs.Checks.{checks_as}
use Rattle.records.proofs.Walk.{board_wheel}
use Rattle.records.proofs.board.wheel.Goals as goal

pub returns : goal.returns
returns c = checks_as _ _ c.new.ensures (board_wheel _ _ (sym c.in_ok-first_trouble.ensures.number))
