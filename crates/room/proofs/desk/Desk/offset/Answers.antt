-- `room::desk::Desk::offset` meets its contract: one law for each way out (proofs/Ridges.antt). Assumes nothing.
use Rattle.runs.proofs.Ordered.{runs_in}
use Rattle.room.proofs.Ridges.{highest-inside, found_none, found-later, found-start, found-half}
use Rattle.room.proofs.desk.Desk.offset.Goals as goal

pub returns-then-top-eq0 : goal.returns-then-top-eq0
returns-then-top-eq0 c =
    let none = c.if-top-eq0.true in
    rw none (found_none _ _ _ _ (rw none at c.requires))

pub after-requires : goal.after-requires
after-requires c = highest-inside _ _ _ _ _ (runs_in c.args.self.now.runs.runs) c.requires

pub returns-then-top-ne0 : goal.returns-then-top-ne0
returns-then-top-ne0 c = rw c.after.ensures (found-later _ _ _ _ _ c.requires c.if-top-ne0.true)

pub returns-then-count-top : goal.returns-then-count-top
returns-then-count-top c = found-start _ _ _ _ _ c.requires (rw c.if-count-top.true at c.count.ensures)

pub returns : goal.returns
returns c = found-half _ _ _ _ _ _ c.requires c.if-top-ne0.false c.count.ensures c.if-count-top.false
