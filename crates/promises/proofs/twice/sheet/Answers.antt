-- Length and text are equal.
use Rattle.promises.proofs.Settled.{sheet-settled}
use Rattle.promises.proofs.twice.sheet.Goals as goal

pub returns : goal.returns
returns c = sheet-settled _ _ _ _ _ _ _ (rw c.requires at c.sheet.ensures.filled) c.sheet-2.ensures.filled
