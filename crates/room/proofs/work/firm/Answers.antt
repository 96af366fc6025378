-- `room::work::firm` meets its contract: the late runs tell, or the least margin does (proofs/Verdicts.antt). Assumes nothing.
use Rattle.std.proofs.Common.{sym, ◌∙◌, FitsSigned, w32, rules}
use Rattle.std.proofs.lemmas.Int.{to_z-of_z}
use Rattle.room.proofs.Sides.{late-ordered}
use Rattle.room.proofs.Ridges.{nearest}
use Rattle.room.proofs.Verdicts.{decides, decides-painted}
use Rattle.room.proofs.work.firm.Goals as goal

pub invariant_of-zones : goal.invariant_of-zones
invariant_of-zones c = record { runs = late-ordered c.args.runs.runs c.late-pass.ensures }

pub returns-then-dropped : goal.returns-then-dropped
returns-then-dropped c = decides _ c.late-pass.ensures c.bears.ensures

pub returns : goal.returns
returns c =
    let fits : FitsSigned w32 c.late-pass.result.margin = search rules in
    let told = rw (to_z-of_z w32 c.late-pass.result.margin fits) at c.dropped.ensures in
    decides-painted _ _ _ _ (nearest c.late-pass.ensures) (sym told ∙ c.if-dropped.false)
