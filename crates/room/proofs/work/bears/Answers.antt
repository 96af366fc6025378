-- `room::work::bears` meets its contract: a search tells, or the largest count does (proofs/Verdicts.antt). Assumes nothing.
use Rattle.room.proofs.Verdicts.{bears-passed, bears-never, bears-top}
use Rattle.room.proofs.work.bears.Goals as goal

pub returns-in-Passed : goal.returns-in-Passed
returns-in-Passed c = bears-passed _ _ _ _ _ c.in-Passed.ensures

pub returns-in-Never : goal.returns-in-Never
returns-in-Never c = bears-never _ _ _ _ _ c.in-Never.ensures

pub returns-in-Spent : goal.returns-in-Spent
returns-in-Spent c = bears-top _ _ _ _ _ _ _ c.top.ensures
