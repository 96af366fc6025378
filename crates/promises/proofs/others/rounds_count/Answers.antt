-- The same slots give the same count (proofs/Boards.antt).
use Rattle.std.proofs.Common.{sym, ap₂, ◌∙◌}
use Rattle.fiddlequill.specs.Packed.{packed}
use Rattle.promises.proofs.Boards.{rounds-are-silent}
use Rattle.promises.proofs.others.rounds_count.Goals as goal

pub returns : goal.returns
returns c =
    let same = rounds-are-silent _ _ _ _ c.args.boards.twins c.args.boards.same in
    c.fiddlequill_rounds_count.ensures ∙ ap₂ packed (same.refused _) (same.counted _) ∙ sym c.fiddlequill_rounds_count-2.ensures
