-- What the loop keeps is a law of `Drawing` (proofs/Draws.antt); an edge stays on the wheel.
use Rattle.std.proofs.Common.{rules, arith}
use Rattle.runs.proofs.Ordered.{runs_in}
use Rattle.maps.proofs.Draws.{draw-start, draw-next, draw-inside, draw-end}
use Rattle.maps.proofs.draw.Goals as goal

pub loop-i-init : goal.loop-i-init
loop-i-init c = draw-start _ _ _

-- `search` finds what `end` is, so that must-fail/ones_too_far.edit falls by what is false of it.
pub stretch-requires : goal.stretch-requires
stretch-requires c = draw-inside c.loop-i.invariant (runs_in c.args.runs.runs) c.requires c.loop-i-test.true (search rules)

pub loop-i-preserved : goal.loop-i-preserved
loop-i-preserved c = draw-next c.loop-i.invariant c.stretch.ensures c.loop-i-test.true (search rules)

pub returns : goal.returns
returns c = draw-end c.loop-i.invariant c.requires (omega arith) c.stretch-2.ensures
