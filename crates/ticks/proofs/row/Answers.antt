-- `ticks::row`: one granted slot more, and the one that stops the row. The laws are in proofs/Marks.antt.
use Rattle.std.proofs.Common.{sym, ◌∙◌}
use Rattle.ticks.proofs.Marks.{row_more, row-stops}
use Rattle.ticks.proofs.row.Goals as goal

pub loop-k-preserved : goal.loop-k-preserved
loop-k-preserved c =
    let inv = c.loop-k.invariant in
    (inv.0, row_more _ _ _ _ _ inv.1 c.loop-k-test.true (sym c.given.ensures ∙ c.if-not-given.false))

pub returns-then-not-given : goal.returns-then-not-given
returns-then-not-given c =
    row-stops _ _ _ _ _ c.loop-k.invariant.1 (λ _. sym c.given.ensures ∙ c.if-not-given.true)
