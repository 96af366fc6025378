-- The place fits the lower half of the packed number.
use Rattle.std.proofs.Common.{◌∙◌}
use Rattle.promises.proofs.Bounds.{unpacked}
use Rattle.promises.proofs.read.which_slot.Goals as goal

pub returns : goal.returns
returns c =
    let asked = c.fiddlequill_which_slot.ensures in
    let parts = unpacked _ _ _ asked.small asked.result in
    rw (c.unpack.ensures.0 ∙ parts.0, c.unpack.ensures.1 ∙ parts.1) asked.call
