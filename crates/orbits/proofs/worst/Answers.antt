use Rattle.std.proofs.Common.{arith}
use Rattle.std.proofs.Math.Nat.{le_refl}
use Rattle.divisor.proofs.Divisor.{gcd-some}
use Rattle.maps.proofs.Strips.{top-turns}
use Rattle.orbits.proofs.Rounds.{round-some}
use Rattle.orbits.proofs.Laps.{ring_of, round-most, orbits-none, lap-asked, lapped-fits, orbits-next, orbits-end, top-few}
use Rattle.orbits.proofs.worst.Goals as goal

pub nonzero_div-r : goal.nonzero_div-r
nonzero_div-r c = gcd-some c.gcd-orbits.ensures c.requires.some

pub fits-rounds-requires : goal.fits-rounds-requires
fits-rounds-requires c =
    let ring = c.requires in
    (round-some _ _ _ ring.some c.gcd-orbits.ensures, omega (arith, round-most c.gcd-orbits.ensures))

pub nonzero_rem-rest : goal.nonzero_rem-rest
nonzero_rem-rest c = round-some _ _ _ c.requires.some c.gcd-orbits.ensures

pub loop-c-init : goal.loop-c-init
loop-c-init c = orbits-none _ _ _ _ _

pub lap-found-requires : goal.lap-found-requires
lap-found-requires c =
    -- Any round that fits the wheel may be lapped: a lap of another length fails where its drops are raised.
    let asked = lap-asked c.requires c.gcd-orbits.ensures c.loop-c-test.true in
    (asked.0, omega (arith, asked.1), asked.2, asked.3)

pub raised-requires : goal.raised-requires
raised-requires c = lapped-fits _ c.fits-rounds.ensures c.lap-found.ensures (ring_of c.requires (le_refl _))

pub loop-c-preserved : goal.loop-c-preserved
loop-c-preserved c =
    orbits-next _ c.fits-rounds.ensures c.lap-found.ensures c.loop-c.invariant c.loop-c-test.true c.raised.ensures c.max-best.ensures

pub overflow_cast-result : goal.overflow_cast-result
overflow_cast-result c =
    let ring = ring_of c.requires (le_refl _) in
    let most = ring.strips in
    omega (arith, top-few ring (orbits-end ring c.gcd-orbits.ensures c.loop-c.invariant c.loop-c-test.false))

pub returns : goal.returns
returns c =
    let ring = ring_of c.requires (le_refl _) in
    top-turns _ _ _ _ _ (orbits-end ring c.gcd-orbits.ensures c.loop-c.invariant c.loop-c-test.false)
