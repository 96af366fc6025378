-- A step back keeps the invariant (`back-next`), counts fit (`beside-fits`), and what is taken off was counted (`back-counted`).
use Rattle.std.proofs.Common.{arith}
use Rattle.slide.proofs.Slides.{beside-fits, rank_most, back_start, back-few, back-counted, back-here, back-next}
use Rattle.slide.proofs.Strips.back.Goals as goal

pub loop-n-init : goal.loop-n-init
loop-n-init c =
    back_start _ _ c.if-w-start.false c.rank-top.ensures (rw c.args.self.spans at c.onward-q.ensures.0) c.onward-q.ensures.1

pub overflow_add-gone : goal.overflow_add-gone
overflow_add-gone c =
    let round = c.args.self.round in
    let inv = c.loop-n.invariant in
    omega (arith, back-few round inv, inv.some, round.sized.strips, round.sized.bits c.backward-q.result)

pub overflow_add-drops : goal.overflow_add-drops
overflow_add-drops c =
    let round = c.args.self.round in
    omega (arith, beside-fits round c.loop-n.invariant.here, round.sized.bits c.backward-p.result)

pub overflow_sub-drops : goal.overflow_sub-drops
overflow_sub-drops c =
    omega (arith, back-counted c.args.self.round c.loop-n.invariant c.backward-p.ensures c.backward-q.ensures)

pub rank-requires : goal.rank-requires
rank-requires c =
    beside-fits c.args.self.round
    (back-here c.args.self.round c.loop-n.invariant c.backward-p.ensures c.backward-q.ensures
    (omega arith))

pub loop-n-preserved : goal.loop-n-preserved
loop-n-preserved c =
    back-next c.args.self.round c.loop-n.invariant c.backward-p.ensures c.backward-q.ensures c.loop-n-test.true
    (omega arith) (omega arith) c.rank.ensures c.max-top.ensures

pub unrank-found-requires : goal.unrank-found-requires
unrank-found-requires c = rank_most c.args.self.round c.loop-n.invariant.rank

pub overflow_add-found : goal.overflow_add-found
overflow_add-found c =
    let round = c.args.self.round in
    let inv = c.loop-n.invariant in
    omega (arith, rank_most round inv.rank, c.unrank-found.ensures.rank, back-few round inv, inv.some, round.sized.strips)
