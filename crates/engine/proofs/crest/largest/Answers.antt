-- The entry that an iteration reads is the list's as a number (`entry-at`), and the larger of two is so as a number
-- (`value-max`).
use Rattle.std.proofs.Common.{arith}
use Rattle.engine.proofs.Entries.{entries-long, entry-at, value-max}
use Rattle.engine.proofs.Crests.{most-next}
use Rattle.engine.proofs.crest.largest.Goals as goal

pub loop-v-preserved : goal.loop-v-preserved
loop-v-preserved g c =
    let n = entries-long g.met.T.Entry.each c.args.block.now in
    let v = entry-at g.met.T.Entry.each c.args.block.now c.loop-v.v-index _ c.loop-v-test.true c.v-item.is in
    most-next c.loop-v.invariant (omega arith) (omega (arith, n)) (rw (c.max-m.ensures, v) (value-max g.T.Entry.value g.met.T.Entry.ranks _ _))
