-- `lines::put` meets its contract: bytes over a part that reaches to the end. Assumes nothing.
use Rattle.lines.proofs.Texts.{put-part}
use Rattle.lines.proofs.put.Goals as goal

pub returns : goal.returns
returns c = put-part _ _ _ _ c.put.ensures
