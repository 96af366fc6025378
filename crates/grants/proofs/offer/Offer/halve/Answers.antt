-- The laws are in proofs/Halves.antt.
use Rattle.std.proofs.Common.{◌≡◌, arith}
use Rattle.grants.proofs.Halves.{halve-few, halve-down, halve-up}
use Rattle.grants.proofs.offer.Offer.halve.Goals as goal

pub overflow_add-middle : goal.overflow_add-middle
overflow_add-middle c =
    omega (arith, c.loop-below.invariant.order, halve-few _ _ _ _ _ c.args.self.tries.gridded c.loop-below.invariant)

pub loop-below-preserved-then-firm : goal.loop-below-preserved-then-firm
loop-below-preserved-then-firm c =
    halve-down _ _ _ _ _ _ c.loop-below.invariant (omega arith) (omega arith) (c.firm.ensures.yes-firm c.if-firm.true)

pub loop-below-preserved : goal.loop-below-preserved
loop-below-preserved c =
    halve-up _ _ _ _ _ _ c.loop-below.invariant (omega arith) (c.firm.ensures.not-firm c.if-firm.false)

pub returns : goal.returns
returns c =
    let e : c.loop-below.below ≡ c.loop-below.above = omega (arith, c.loop-below.invariant.order) in
    rw e at c.loop-below.invariant
