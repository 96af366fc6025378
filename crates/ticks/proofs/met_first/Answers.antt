-- `ticks::met_first`: one law for each way out (proofs/Slots.antt).
use Rattle.ticks.proofs.Slots.{met-none, met-last, met-short, met-other}
use Rattle.ticks.proofs.met_first.Goals as goal
use Rattle.ticks.proofs.met_first.Goals.{else-last-owner-via-then-last-owner+else-last-w, else-last-owner-via-else-last-owner}

pub returns-then-count-eq0 : goal.returns-then-count-eq0
returns-then-count-eq0 c = met-none _ _ _ _ _ c.if-count-eq0.true

pub returns-then-last-w : goal.returns-then-last-w
returns-then-last-w c =
    met-last _ _ _ _ _ _ c.if-count-eq0.false c.slot_at-last.ensures c.if-last-owner.true c.if-last-w.true

pub returns-else-last-owner : goal.returns-else-last-owner
returns-else-last-owner c =
    let read = c.slot_at-last.ensures in
    elim c.else-last-owner.branch [
      | else-last-owner-via-then-last-owner+else-last-w w ↦ met-short _ _ _ _ _ _ c.if-count-eq0.false read w.if-last-w.false
      | else-last-owner-via-else-last-owner w ↦ met-other _ _ _ _ _ _ c.if-count-eq0.false read w.if-last-owner.false
    ]
