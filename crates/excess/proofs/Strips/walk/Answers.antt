-- A step counts a strip (`counting-next`), slides the offset back (`back-next`) or is done with a start (`walking-next`). The loop is left by its test,
-- where the starts are enough (`enough`), or from one of the two inside it with a count above the allowance (`counting-left`, `back-left`).
use Rattle.std.proofs.Common.{◌≡◌, ◌+◌, ◌-◌, arith, refl}
use Rattle.runs.proofs.Ordered.{runs_in}
use Rattle.excess.proofs.Walks.{counting-start, counting-next, counting-left, back-counted, back-next, back-left, walking-next, enough}
use Rattle.excess.proofs.Strips.walk.Goals as goal

pub loop-n-init : goal.loop-n-init
loop-n-init c = counting-start _ _ _ c.start-p.ensures.1

pub loop-n-preserved : goal.loop-n-preserved
loop-n-preserved c =
    counting-next c.loop-n.invariant c.loop-n-test.true c.late_at-drops.ensures.0 refl c.if-self-drops.false c.onward-q.ensures

pub overflow_sub-drops : goal.overflow_sub-drops
overflow_sub-drops c =
    back-counted c.loop-back.invariant c.backward-p.ensures c.backward-q.ensures c.late_at.ensures.0 c.late_at-in-loop-back.ensures.0
    (runs_in c.args.zones.runs)

pub loop-back-preserved : goal.loop-back-preserved
loop-back-preserved c =
    let next : c.loop-back._back + 1 - 1 ≡ c.loop-back._back - 1 + 1 = omega (arith, c.loop-back.auto._back) in
    rw next
    (back-next c.loop-back.invariant c.backward-p.ensures c.backward-q.ensures c.late_at.ensures.0 c.late_at-in-loop-back.ensures.0
    (omega (arith, c.loop-back-test.true, c.loop-back.auto._back)) refl c.if-self-drops-2.false)

pub offsets-preserved : goal.offsets-preserved
offsets-preserved c =
    walking-next c.offsets.invariant c.start-p.ensures.0 c.loop-back.invariant (omega (arith, c.loop-back-test.false))

pub returns-then-drops-self : goal.returns-then-drops-self
returns-then-drops-self c =
    let opens = c.opening-entry.ensures in
    elim c.offsets-test.branch [
      | goal.else-offsets-test w ↦ λ z laid. enough c.offsets.invariant opens w.offsets-test.false z laid c.args.self.some
      | goal.then-offsets-test+then-loop-n-test+then-self-drops w ↦ absurd (omega (arith, w.if-self-drops.true, w.drops-is, c.if-drops-self.true))
      | goal.then-offsets-test+else-loop-n-test+then-loop-back-test+then-self-drops-2 w ↦ absurd (omega (arith, w.if-self-drops-2.true, w.drops-is, c.if-drops-self.true))
      | goal.then-offsets-test+else-loop-n-test+else-loop-back-test+else-entry-end-entry-gt2 w ↦ λ z laid.
          enough
          (walking-next c.offsets.invariant w.start-p.ensures.0 w.loop-back.invariant (omega (arith, w.loop-back-test.false)))
          opens (omega arith) z laid c.args.self.some
    ]

pub returns : goal.returns
returns c =
    elim c.offsets-test.branch [
      | goal.else-offsets-test w ↦ absurd (omega (arith, c.offsets.invariant.few, w.drops-is))
      | goal.then-offsets-test+then-loop-n-test+then-self-drops w ↦
          counting-left w.loop-n.invariant w.loop-n-test.true w.late_at-drops.ensures.0 w.if-self-drops.true
      | goal.then-offsets-test+else-loop-n-test+then-loop-back-test+then-self-drops-2 w ↦
          back-left w.loop-back.invariant w.backward-p.ensures w.backward-q.ensures w.late_at.ensures.0 w.late_at-in-loop-back.ensures.0
          w.if-self-drops-2.true
      | goal.then-offsets-test+else-loop-n-test+else-loop-back-test+else-entry-end-entry-gt2 w ↦
          absurd (omega (arith, w.loop-back.invariant.few, w.drops-is))
    ]
