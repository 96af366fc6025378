-- A bit fits the lower half of the packed number.
use Rattle.std.proofs.Common.{ap, ◌∙◌, eqb}
use Rattle.promises.proofs.Bounds.{unpacked-quick}
use Rattle.promises.proofs.read.quick.Goals as goal

pub returns : goal.returns
returns c =
    let asked = c.fiddlequill_quick.ensures in
    let halves = c.unpack-parts.ensures in
    let parts = unpacked-quick _ _ _ asked.result in
    rw (halves.0 ∙ parts.0, ap (λ x. eqb x 1) halves.1 ∙ parts.1) asked.call
