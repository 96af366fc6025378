-- `sheets::row` meets its contract: the answer that judging wrote, as a line. Assumes nothing.
use Rattle.sheets.proofs.Fills.{row_put}
use Rattle.sheets.proofs.row.Goals as goal

pub returns : goal.returns
returns c = row_put _ _ _ _ _ _ _ _ c.judge.ensures c.judge.auto.reply c.requires c.line.ensures
