-- The largest is still to come (`Led`), so there is a place that has it (`place-some`), and the first such is the first
-- of all (`place-hit`, `first-from`).
use Rattle.std.proofs.Common.{◌≡◌, ◌+◌, ◌-◌, length, drop, arith, le_refl, sym, ◌∙◌, length-drop, get_or-drop}
use Rattle.std.proofs.lemmas.Slice.{between_to_end}
use Rattle.engine.proofs.Entries.{entries-long, entries-drop, place-some, place-hit}
use Rattle.engine.proofs.Crests.{first-from}
use Rattle.engine.proofs.crest.first.Goals as goal

pub unwrap-requires : goal.unwrap-requires
unwrap-requires g c =
    let each = g.met.T.Entry.each in
    let x = c.args.x.now in
    let n = entries-long each x in
    let o : c.args.from + (c.requires.place - c.args.from) ≡ c.requires.place = omega (arith, c.requires.start) in
    rw (c.place.ensures, between_to_end x c.args.from (length x) (le_refl _))
    (place-some each g.met.T.Entry.same (drop c.args.from x) c.args.m (c.requires.place - c.args.from)
    (simp length-drop (omega (arith, n, c.requires.start, c.requires.inside)))
    (rw (entries-drop each, get_or-drop, o) c.requires.hit))

pub returns : goal.returns
returns g c =
    let each = g.met.T.Entry.each in
    let x = c.args.x.now in
    let n = entries-long each x in
    let h = place-hit each g.met.T.Entry.same (drop c.args.from x) c.args.m c.unwrap.result
    (rw (between_to_end x c.args.from (length x) (le_refl _)) at (sym c.place.ensures) ∙ c.unwrap.ensures) in
    first-from c.unwrap.result (rw (← n) at c.requires) (let l = simp length-drop at h.0 in omega (arith, n))
    (rw (entries-drop each, get_or-drop) at h.1) (λ k l. rw (entries-drop each, get_or-drop) at (h.2 k l))
