-- Each pass is within its bounds (`near-asks`, `far-asks`), and the two are a turn (`turned`).
use Rattle.std.proofs.Common.{◌-◌, length, arith}
use Rattle.engine.proofs.Entries.{entries-long, entries-take, entries-drop, entries-append}
use Rattle.engine.proofs.Turns.{near-asks, far-asks, turned}
use Rattle.engine.proofs.turn.turned.Goals as goal

pub returns : goal.returns
returns g c =
    let w = entries-long g.met.X.Entry.each c.args.x.now in
    let e = entries-long g.met.S.Entry.each c.args.sum.now in
    let near = entries-long g.met.S.Entry.each c.add.new.sum in
    let far = entries-long g.met.S.Entry.each c.add-2.new.sum in
    let first = simp (c.split_at.ensures.front, c.split_at-2.ensures.back, entries-take g.met.X.Entry.each, entries-drop g.met.Y.Entry.each) at c.add.ensures in
    let second = simp (c.split_at.ensures.back, c.split_at-2.ensures.front, entries-drop g.met.X.Entry.each, entries-take g.met.Y.Entry.each) at c.add-2.ensures in
    rw (entries-append g.met.S.Entry.each)
    (turned _ _ (length c.args.x.now - c.args.s) (omega (arith, w)) (omega (arith, near, c.split_at_mut-near.ensures.front_len))
    (omega (arith, far, e, w, c.split_at_mut-near.ensures.back_len)) first second (rw w c.onward.ensures.0))

pub add-requires : goal.add-requires
add-requires g c =
    let w = entries-long g.met.X.Entry.each c.args.x.now in
    rw (c.split_at_mut-near.ensures.front, c.split_at.ensures.front, c.split_at-2.ensures.back, entries-take g.met.S.Entry.each, entries-take g.met.X.Entry.each, entries-drop g.met.Y.Entry.each)
    (near-asks (length c.args.x.now - c.args.s) (omega (arith, w)) c.requires)

pub add-requires-2 : goal.add-requires-2
add-requires-2 g c =
    let w = entries-long g.met.X.Entry.each c.args.x.now in
    rw (c.split_at_mut-near.ensures.back, c.split_at.ensures.back, c.split_at-2.ensures.front, entries-drop g.met.S.Entry.each, entries-drop g.met.X.Entry.each, entries-take g.met.Y.Entry.each)
    (far-asks (length c.args.x.now - c.args.s) (omega (arith, w)) c.requires)
