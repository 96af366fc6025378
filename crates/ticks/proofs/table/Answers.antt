-- `ticks::table`: slot by slot. The laws are in proofs/Slots.antt and proofs/Laying.antt.
use Rattle.std.proofs.Common.{refl, arith}
use Rattle.ticks.proofs.Slots.{board-start, read_short, read_more, read-order, read_next, read-skip, board-end}
use Rattle.ticks.proofs.Laying.{laying-room, laying-inside}
use Rattle.ticks.proofs.table.Goals as goal
use Rattle.ticks.proofs.table.Goals.{then-s-owner, else-s-owner}

pub loop-i-init : goal.loop-i-init
loop-i-init c =
    (c.requires, rw c.start-reach.ensures (board-start _ _ _ _ _ _ _ c.requires c.met_first.ensures))

pub slot-reach-requires : goal.slot-reach-requires
slot-reach-requires c =
    let inv = c.loop-i.invariant.1 in
    let read = c.slot_at-s.ensures in
    let less = c.loop-i-test.true in
    record {
      short = read_short _ _ _ _ _ _ _ read _ _ _ _ _ inv less;
      room = read_more _ _ _ _ _ _ _ read _ _ _ _ _ inv less;
      order = read-order _ _ _ _ _ _ _ read _ _ _ _ _ inv less _ refl;
    }

pub loop-i-preserved : goal.loop-i-preserved
loop-i-preserved c =
    let inv = c.loop-i.invariant in
    let read = c.slot_at-s.ensures in
    let less = c.loop-i-test.true in (
      inv.0,
      elim c.if-s-owner.branch [
        | then-s-owner w ↦
            let come = w.slot-reach.ensures.come in
            rw (w.runs-is, w.reach-is, come.0, come.1)
            (read_next _ _ _ _ _ _ _ read _ _ _ _ _ inv.1 less _ refl w.if-s-owner.true _ _ w.slot-reach.ensures.laid)
        | else-s-owner w ↦ rw (w.runs-is, w.reach-is)
            (read-skip _ _ _ _ _ _ _ read _ _ _ _ _ inv.1 less w.if-s-owner.false)
      ],
    )

pub span-requires : goal.span-requires
span-requires c =
    let inv = c.loop-i.invariant.1 in
    omega (arith, laying-room _ _ _ _ _ _ _ _ inv, laying-inside _ _ _ _ _ _ _ _ inv, inv.lays.most)

pub returns : goal.returns
returns c =
    board-end _ _ _ _ _ _ _ _ _ _ _ c.loop-i.invariant.1 c.loop-i-test.false _ _ c.span.ensures
