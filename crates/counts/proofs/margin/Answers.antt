-- `counts::margin`: the supply less the need (proofs/Halves.antt).
use Rattle.std.proofs.Common.{◌∙◌, w32}
use mir.Facts.{to_z-of_z}
use Rattle.counts.proofs.Halves.{margin-at}
use Rattle.counts.proofs.margin.Goals as goal

pub returns : goal.returns
returns c =
    λ u laid.
    to_z-of_z {w = w32} (record { sfits = c.over.type_inv }) ∙ c.over.ensures ∙ margin-at u c.args.task _ _ (c.supply.ensures.1 u laid)
