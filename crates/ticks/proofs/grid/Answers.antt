-- `ticks::grid`: row by row of granted slots. The laws are in proofs/Marks.antt and proofs/Laying.antt.
use Rattle.std.proofs.Common.{◌≡◌, Bool, true, ◌&&◌, List, ℕ, ◌+◌, ◌<◌, eqb, ltb, length, get_or, refl, sym, ◌∙◌, arith}
use Rattle.rules.proofs.Sums.{number-le}
use Rattle.limits.specs.declared.Grid.{Grid}
use Rattle.ticks.specs.Ticks.{free_of, WholeRow}
use Rattle.ticks.proofs.Marks.{Gridding, Granting, gridding-start, slots-inside, grid-more, grid-order, grid-next, grid-skip, grid-end}
use Rattle.ticks.proofs.Laying.{laying-room, laying-inside}
use Rattle.ticks.proofs.grid.Goals as goal

-- What is known behind a row of granted slots.
granting :
    {l : List ℕ} {g : Grid} {all j : ℕ} {t₀ t : List ℕ} {n at met seen i k : ℕ} {b : Bool} → Gridding l g all j t₀ t n at met seen i
    → i < length l → b ≡ (eqb (get_or l i 0) 1 && ltb seen j) → b ≡ true → WholeRow l (i + 1) (seen + 1) j k
    → Granting l g all j t₀ t n at met seen i k
granting inv less given test whole = record { inv = inv; less = less; given = sym given ∙ test; whole = whole }

pub loop-i-init : goal.loop-i-init
loop-i-init c = rw c.start-reach.ensures (gridding-start _ _ _ _ _ _ c.requires c.met_granted.ensures)

pub row-k-requires : goal.row-k-requires
row-k-requires c =
    omega (arith, c.loop-i.invariant.few, number-le (free_of c.args.marks.now) c.loop-i.i)

pub slot-reach-requires : goal.slot-reach-requires
slot-reach-requires c =
    let known = granting c.loop-i.invariant c.loop-i-test.true c.given.ensures c.if-given.true c.row-k.ensures in
    record {
      short = (slots-inside _ _ _ _ _ _ _ _ _ _ _ _ known).0;
      room = grid-more _ _ _ _ _ _ _ _ _ _ _ _ known;
      order = grid-order _ _ _ _ _ _ _ _ _ _ _ _ known _ refl;
    }

pub overflow_add-seen-then-given : goal.overflow_add-seen-then-given
overflow_add-seen-then-given c =
    omega (arith, c.loop-i.invariant.few, number-le (free_of c.args.marks.now) c.loop-i.i, c.row-k.ensures.row.high)

pub loop-i-preserved-then-given : goal.loop-i-preserved-then-given
loop-i-preserved-then-given c =
    let known = granting c.loop-i.invariant c.loop-i-test.true c.given.ensures c.if-given.true c.row-k.ensures in
    let come = c.slot-reach.ensures.come in
    rw (come.0, come.1) (grid-next _ _ _ _ _ _ _ _ _ _ _ _ known _ refl _ _ c.slot-reach.ensures.laid _ c.min-i.ensures)

pub loop-i-preserved : goal.loop-i-preserved
loop-i-preserved c =
    grid-skip _ _ _ _ _ _ _ _ _ _ _ c.loop-i.invariant c.loop-i-test.true (sym c.given.ensures ∙ c.if-given.false)

pub span-requires : goal.span-requires
span-requires c =
    let inv = c.loop-i.invariant in
    omega (arith, laying-room _ _ _ _ _ _ _ _ inv.laying, laying-inside _ _ _ _ _ _ _ _ inv.laying, inv.fits.most)

pub returns : goal.returns
returns c = grid-end _ _ _ _ _ _ _ _ _ _ _ c.loop-i.invariant c.loop-i-test.false _ _ c.span.ensures
