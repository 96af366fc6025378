-- The same slots give the same verdict (proofs/Boards.antt).
use Rattle.std.proofs.Common.{sym, ◌∙◌}
use Rattle.rules.specs.Sums.{bit}
use Rattle.fiddlequill.specs.Packed.{packed}
use Rattle.promises.proofs.Boards.{verdicts-agree}
use Rattle.promises.proofs.others.quick.Goals as goal

pub returns : goal.returns
returns c =
    let one = c.fiddlequill_quick.ensures in
    let other = c.fiddlequill_quick-2.ensures in
    let same = verdicts-agree _ _ _ _ _ _ _ _ c.args.boards.twins c.args.boards.same one.call other.call in
    one.result ∙ (λ i. packed (same.0 i) (bit (same.1 i))) ∙ sym other.result
