-- A mark more is counted where it is free. Assumes nothing.
use Rattle.std.proofs.Common.{◌≡◌, ◌∙◌, sym, ap, arith, eqb, get_or}
use Rattle.rules.specs.Sums.{bit}
use Rattle.rules.proofs.Sums.{number-none, number_more, bit_le}
use Rattle.ticks.specs.Ticks.{free_of}
use Rattle.grants.proofs.marks.free.Goals as goal

pub loop-mark-init : goal.loop-mark-init
loop-mark-init c = (sym (number-none _), omega arith)

pub loop-mark-preserved : goal.loop-mark-preserved
unfolding free_of bit
loop-mark-preserved c =
    let here : c.from-n.result ≡ bit (eqb (get_or c.args.marks.now c.loop-mark.mark-index 0) 1) = c.from-n.ensures ∙ ap bit c.free.ensures in
    let more = number_more (free_of c.args.marks.now) c.loop-mark.mark-index in
    (omega (arith, c.loop-mark.invariant.0, more, here), omega (arith, c.loop-mark.invariant.1, here, bit_le (eqb (get_or c.args.marks.now c.loop-mark.mark-index 0) 1)))
