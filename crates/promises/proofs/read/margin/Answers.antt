-- The lower half of the packed number has the margin's bits, and they give it back.
use Rattle.std.proofs.Common.{ap, ◌∙◌, w32}
use mir.Facts.{to_z-of_z}
use Rattle.octets.specs.Octets.{signed}
use Rattle.promises.proofs.Bounds.{unpacked-margin}
use Rattle.promises.proofs.read.margin.Goals as goal

pub returns : goal.returns
returns c =
    let halves = c.unpack-parts.ensures in
    let parts = unpacked-margin _ _ _ _ c.fiddlequill_margin.ensures in (
      halves.0 ∙ parts.0,
      to_z-of_z {w = w32} (record { sfits = c.signed.type_inv }) ∙ c.signed.ensures ∙ ap signed halves.1 ∙ parts.1,
    )
