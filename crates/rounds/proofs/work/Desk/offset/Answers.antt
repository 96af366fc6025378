-- One law for each way out (crates/room/proofs/Ridges.antt).
use Rattle.runs.proofs.Ordered.{runs_in}
use Rattle.room.proofs.Ridges.{highest-inside, found-later, found-start, found-half}
use Rattle.rounds.proofs.work.Desk.offset.Goals as goal

pub after-requires : goal.after-requires
after-requires c = highest-inside _ _ _ _ _ (runs_in c.args.self.now.runs.runs) c.requires

pub returns-then-top-ne0 : goal.returns-then-top-ne0
returns-then-top-ne0 c = rw c.after.ensures (found-later _ _ _ _ _ c.requires c.if-top-ne0.true)

pub returns-then-tally-top : goal.returns-then-tally-top
returns-then-tally-top c = found-start _ _ _ _ _ c.requires (rw c.if-tally-top.true at c.tally.ensures)

pub returns : goal.returns
returns c = found-half _ _ _ _ _ _ c.requires c.if-top-ne0.false c.tally.ensures c.if-tally-top.false
