-- The granted slots fit the lower half of the packed number.
use Rattle.std.proofs.Common.{◌∙◌}
use Rattle.promises.proofs.Bounds.{unpacked}
use Rattle.promises.proofs.read.grant.Goals as goal

pub returns : goal.returns
returns c =
    let granted = c.fiddlequill_grant.ensures in
    let parts = unpacked _ _ _ granted.small granted.result in
    rw (c.unpack.ensures.0 ∙ parts.0, c.unpack.ensures.1 ∙ parts.1) granted.call
