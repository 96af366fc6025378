use Rattle.std.proofs.Common.{arith}
use Rattle.orbits.proofs.Laps.{walk_start, walk-next, walk-few, walk_end}
use Rattle.orbits.proofs.Strips.walk.Goals as goal

pub loop-i-init : goal.loop-i-init
loop-i-init c = walk_start _ _ c.requires.0

pub overflow_add-met : goal.overflow_add-met
overflow_add-met c =
    let ring = c.args.self.ring in
    omega (arith, walk-few ring.bits c.loop-i.invariant, ring.strips, ring.bits c.loop-i.at)

pub loop-i-preserved : goal.loop-i-preserved
loop-i-preserved c = walk-next c.loop-i.invariant c.loop-i-test.true c.from-met.ensures c.on-at.ensures

pub returns : goal.returns
returns c = walk_end c.args.self.ring.bits c.loop-i.invariant c.loop-i-test.false
