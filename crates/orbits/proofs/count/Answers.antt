-- A round as often as it fits, and the strips that are left over (proofs/Members.antt, `count-end`).
use Rattle.std.proofs.Common.{arith}
use Rattle.std.proofs.Math.Nat.{mod-lt}
use Rattle.divisor.proofs.Divisor.{gcd-some}
use Rattle.runs.proofs.Ordered.{runs_ordered}
use Rattle.orbits.proofs.Rounds.{round-some}
use Rattle.orbits.proofs.Laps.{round-most}
use Rattle.orbits.proofs.Members.{count-end, runs-mapped}
use Rattle.orbits.proofs.count.Goals as goal

pub nonzero_div-r : goal.nonzero_div-r
nonzero_div-r c = gcd-some c.gcd-g.ensures c.requires.1.some

pub nonzero_rem-k : goal.nonzero_rem-k
nonzero_rem-k c = round-some _ _ _ c.requires.1.some c.gcd-g.ensures

pub fits-requires : goal.fits-requires
fits-requires c =
    let ring = c.requires.1 in
    (round-some _ _ _ ring.some c.gcd-g.ensures, omega (arith, round-most c.gcd-g.ensures))

pub nonzero_rem-p : goal.nonzero_rem-p
nonzero_rem-p c = gcd-some c.gcd-g.ensures c.requires.1.some

pub met-requires : goal.met-requires
met-requires c =
    let d = c.gcd-g.ensures in
    (d.left, mod-lt _ (gcd-some d c.requires.1.some))

pub invariant_of-ticks : goal.invariant_of-ticks
invariant_of-ticks c = record { runs = runs_ordered (runs-mapped _ _ c.requires.0) }

-- The count, and that it is at most k.
pub returns : goal.returns
returns c =
    count-end _ _ _ _ _ _ c.requires.0 c.requires.1 c.gcd-g.ensures c.requires.2 c.fits.ensures c.met.ensures c.walk-rest.ensures.0

pub overflow_mul-result : goal.overflow_mul-result
overflow_mul-result c = let most = c.requires.1.strips in omega (arith, (returns c).1)

pub overflow_add-result : goal.overflow_add-result
overflow_add-result c = let most = c.requires.1.strips in omega (arith, (returns c).1)
