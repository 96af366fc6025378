use Rattle.std.proofs.Common.{◌∙◌, ap, max, arith}
use Rattle.orbits.proofs.Laps.{walk-few, lap-start, lap-few, lap-counted, lap-next}
use Rattle.orbits.proofs.Strips.lap.Goals as goal

pub loop-i-init : goal.loop-i-init
loop-i-init c = lap-start _ _ _ c.requires.0 c.walk-drops.ensures.0 c.on-q.ensures

pub rank-requires : goal.rank-requires
rank-requires c =
    let ring = c.args.self.ring in
    let inside = c.loop-i.invariant.walked.inside in
    (omega (arith, lap-few c.loop-i.invariant ring.bits, ring.strips), omega (arith, ring.most))

pub overflow_add-round : goal.overflow_add-round
overflow_add-round c =
    let ring = c.args.self.ring in
    let inv = c.loop-i.invariant.walked in
    omega (arith, walk-few ring.bits inv, inv.some, c.requires.1, ring.most, ring.bits c.loop-i.p)

pub overflow_sub-drops : goal.overflow_sub-drops
overflow_sub-drops c = omega (arith, lap-counted c.loop-i.invariant)

pub loop-i-preserved : goal.loop-i-preserved
loop-i-preserved c =
    lap-next c.loop-i.invariant c.loop-i-test.true c.from-here.ensures c.from.ensures c.on-p.ensures c.on-q-in-loop-i.ensures
    (c.max-top.ensures ∙ ap (λ x. max c.loop-i.top x) c.rank.ensures)
