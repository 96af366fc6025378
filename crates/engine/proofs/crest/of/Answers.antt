-- A block's largest is the list's from the block's start to its end (`block-most`); where it is more than those before,
-- the block is the first to have it (`led-raised`), else all stays as it was (`led-kept`).
use Rattle.std.proofs.Common.{◌≡◌, ℕ, ◌+◌, ◌*◌, min, length, drop, sym, ap, ◌∙◌, arith}
use Rattle.std.proofs.Math.Dec.{ltb}
use Rattle.std.proofs.lemmas.Bool.{ltb-true, ltb-false}
use Rattle.std.specs.Iterator.Adapters.{enumerate_source, enumerate_count}
use Rattle.std.specs.Slice.Iter.{chunks_rest, chunks_size}
use Rattle.engine.specs.First.{Most, Led}
use Rattle.engine.proofs.Entries.{entries-long, entries-drop, entries-append, is_lt-cmp}
use Rattle.engine.proofs.Crests.{Cut, cut-of, block-most, led-raised, led-kept}
use Rattle.engine.proofs.crest.of.Given.{Over}
use Rattle.engine.proofs.crest.of.Goals as goal
use Rattle.engine.proofs.crest.of.Goals.{After-lt}

-- The block is cut off what was left.
cut : (g : Over) (c : After-lt g) → Cut c.args.x.now c.in-Some.block.now (chunks_rest (enumerate_source c.next.new.self)) (c.in-Some.i * 256) 256
cut g c =
    let s = c.in-Some.ensures.steps in
    let left = rw (← s.1) at c.loop-i.invariant.0 in
    cut-of c.args.x.now c.in-Some.block.now (chunks_rest (enumerate_source c.next.new.self)) (c.in-Some.i * 256) 256
    (left ∙ s.0.1.0) (rw (c.loop-i.invariant.1, ← left) at s.0.1.1) (rw (← left) at s.0.1.2)

most :
    (g : Over) (c : After-lt g)
    → Most (g.T.Entry.values c.args.x.now) (c.in-Some.i * 256) (c.in-Some.i * 256 + length c.in-Some.block.now) (c.in-Some.i * 256 + length c.in-Some.block.now) (g.T.Entry.value c.largest-most.result)
most g c =
    let each = g.met.T.Entry.each in
    let n = entries-long each c.in-Some.block.now in
    let s = c.in-Some.ensures.steps in
    let left = rw (← s.1) at c.loop-i.invariant.0 in
    let parts = sym (entries-drop each (c.in-Some.i * 256) c.args.x.now) ∙ ap g.T.Entry.values (left ∙ s.0.1.0) ∙ entries-append each c.in-Some.block.now (chunks_rest (enumerate_source c.next.new.self)) in
    let largest = rw (← n) at c.largest-most.ensures in
    rw n at (block-most {x = g.T.Entry.values c.args.x.now} {from = c.in-Some.i * 256} (g.T.Entry.values (chunks_rest (enumerate_source c.next.new.self))) parts largest)

led : (g : Over) (c : After-lt g) → Led (g.T.Entry.values c.args.x.now) (c.in-Some.i * 256) (g.T.Entry.value c.loop-i.m) c.loop-i.at
led g c =
    let k = cut g c in
    let s = c.in-Some.ensures.steps in
    let e : min (enumerate_count c.loop-i.i-iterator * 256) (length c.args.x.now) ≡ c.in-Some.i * 256 = omega (arith, k.inside, s.1) in
    rw e at c.loop-i.invariant.2

less : (g : Over) (c : After-lt g) → c.lt.result ≡ ltb (g.T.Entry.value c.loop-i.m) (g.T.Entry.value c.largest-most.result)
less g c = c.lt.ensures ∙ rw g.met.T.Ord.matches_partial_cmp (is_lt-cmp g.T.Entry.value g.met.T.Entry.ranks _ _)

next :
    (g : Over) (c : After-lt g) (m at : ℕ) → Led (g.T.Entry.values c.args.x.now) (c.in-Some.i * 256 + length c.in-Some.block.now) m at
    → (drop (enumerate_count c.next.new.self * 256) c.args.x.now ≡ chunks_rest (enumerate_source c.next.new.self))
    × (chunks_size (enumerate_source c.next.new.self) ≡ 256)
    × Led (g.T.Entry.values c.args.x.now) (min (enumerate_count c.next.new.self * 256) (length c.args.x.now)) m at
next g c m at l =
    let k = cut g c in
    let s = c.in-Some.ensures.steps in
    let n : enumerate_count c.next.new.self * 256 ≡ c.in-Some.i * 256 + 256 = omega (arith, s.1, s.2) in
    (rw n k.next, s.0.0 ∙ c.loop-i.invariant.1, rw (n, ← k.end) l)

pub loop-i-preserved-then-lt : goal.loop-i-preserved-then-lt
loop-i-preserved-then-lt g c =
    let d = (goal.at.loop-i-preserved-then-lt g c).After-lt in
    let k = cut g d in
    next g d _ _ (led-raised (led g d) (most g d) (ltb-true _ _ (sym (less g d) ∙ c.if-lt.true)) (omega (arith, k.end, entries-long g.met.T.Entry.each c.args.x.now)))

pub loop-i-preserved : goal.loop-i-preserved
loop-i-preserved g c =
    let d = (goal.at.loop-i-preserved g c).After-lt in
    next g d _ _ (led-kept (led g d) (most g d) (ltb-false _ _ (sym (less g d) ∙ c.if-lt.false)))
