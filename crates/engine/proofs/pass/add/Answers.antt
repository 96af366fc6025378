-- The entries that an iteration reads are those of the lists as numbers (`entry-at`), and their sum is the entry that
-- it writes (`entries-set`).
use Rattle.std.proofs.Common.{◌≡◌, ◌+◌, get_or, arith, ◌∙◌}
use Rattle.engine.proofs.Entries.{entries-long, entry-at, entries-set}
use Rattle.engine.proofs.Turns.{added_next}
use Rattle.engine.proofs.pass.add.Given.{Over}
use Rattle.engine.proofs.pass.add.Goals as goal
use Rattle.engine.proofs.pass.add.Goals.{After-wide-in-loop-i}

both-read :
    (g : Over) (c : After-wide-in-loop-i g)
    → g.S.Entry.value c.wide.result + g.S.Entry.value c.wide-in-loop-i.result
    ≡ get_or (g.X.Entry.values c.args.x.now) c.loop-i.i 0 + get_or (g.Y.Entry.values c.args.y.now) c.loop-i.i 0
both-read g c =
    let s = entries-long g.met.S.Entry.each c.args.sum.now in
    let x = entries-long g.met.X.Entry.each c.args.x.now in
    let y = entries-long g.met.Y.Entry.each c.args.y.now in
    rw (
      c.wide.ensures,
      c.wide-in-loop-i.ensures,
      entry-at g.met.X.Entry.each c.args.x.now c.loop-i.i c.index-x-i.result (omega (arith, s, x)) c.index-x-i.is,
      entry-at g.met.Y.Entry.each c.args.y.now c.loop-i.i c.index-y-i.result (omega (arith, s, y)) c.index-y-i.is,
    )

pub add-requires : goal.add-requires
add-requires g c =
    g.met.S.Entry.adds c.wide.result c.wide-in-loop-i.result (rw (both-read g c) (c.requires.1.small c.loop-i.i c.loop-i.i))

pub loop-i-preserved : goal.loop-i-preserved
loop-i-preserved g c =
    let n = entries-long g.met.S.Entry.each c.loop-i.sum in
    let read = both-read g (goal.at.loop-i-preserved g c).After-wide-in-loop-i in
    rw (entries-set g.met.S.Entry.each c.loop-i.sum c.loop-i.i c.add.result)
    (added_next (g.S.Entry.values c.loop-i.sum) (g.X.Entry.values c.args.x.now) (g.Y.Entry.values c.args.y.now) c.loop-i.i
    (g.S.Entry.value c.add.result) (omega (arith, n)) (g.met.S.Entry.sums _ _ _ c.add.ensures ∙ read) c.loop-i.invariant)
