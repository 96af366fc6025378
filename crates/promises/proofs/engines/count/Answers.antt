-- Both engines' packed numbers are equal but beside refusal 9 (proofs/Rounds.antt).
use Rattle.std.proofs.Common.{sym, ap₂, ◌∙◌}
use Rattle.fiddlequill.specs.Packed.{packed}
use Rattle.promises.proofs.Bounds.{unpacked-count}
use Rattle.promises.proofs.Rounds.{counts-agree}
use Rattle.promises.proofs.engines.count.Goals as goal

pub returns : goal.returns
returns c other =
    let first = c.fiddlequill_count.ensures in
    let same = counts-agree _ _ _ (λ e. other ((unpacked-count _ _ _ _ first).0 ∙ e)) in
    first ∙ sym (ap₂ packed same.0 same.1) ∙ sym c.fiddlequill_rounds_count.ensures
