-- What the loops keep are laws of `Carried` (proofs/Carried.antt).
use Rattle.std.proofs.Common.{◌≡◌, ◌*◌, ◌/◌, length, arith}
use Rattle.std.proofs.Math.Nat.{add-mod-mod}
use Rattle.maps.proofs.Carried.{carried-start, carried-next, count_left}
use Rattle.maps.proofs.along.Goals as goal

-- `cc` finds where b is for the period unturned too, so that must-fail/period_unturned.edit falls by `onward-b-requires`, its false fact.
pub loop-init : goal.loop-init
loop-init c =
    carried-start c.requires.0 c.requires.1 c.onward-two.ensures c.onward-four.ensures
    (cc (c.onward-b.ensures.0, add-mod-mod c.args.p c.args.h (length c.args.map.now)), c.onward-b.ensures.1) c.onward.ensures
    c.onward-2.ensures

pub loop-place-preserved : goal.loop-place-preserved
loop-place-preserved c = carried-next c.loop-place.invariant (omega arith) c.loop-place-test.true c.from-met.ensures c.onward-in-loop-place.ensures

pub loop-last-preserved : goal.loop-last-preserved
loop-last-preserved c =
    let all : 4 * (c.args.k / 4) ≡ 4 * c.loop.counter = omega arith in
    rw all (count_left c.loop.invariant (omega arith) (omega arith) c.loop-last-test.true (rw all at c.loop-last.invariant) c.from-met-in-loop-last.ensures)
