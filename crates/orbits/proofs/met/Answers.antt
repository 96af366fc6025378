use Rattle.std.proofs.Common.{arith}
use Rattle.runs.proofs.Ordered.{runs_in}
use Rattle.orbits.proofs.Members.{meet-start, below-fits, sum_fits, meet-next, meet-end}
use Rattle.orbits.proofs.met.Goals as goal

pub loop-i-init : goal.loop-i-init
loop-i-init c = meet-start c.requires.1

pub below-requires : goal.below-requires
below-requires c = below-fits _ _ (runs_in c.args.runs.runs) c.requires.0 c.requires.1 _ c.end-end.ensures

pub overflow_add-n : goal.overflow_add-n
overflow_add-n c =
    let given = c.requires in
    let fits = below-fits _ _ (runs_in c.args.runs.runs) given.0 given.1 _ c.end-end.ensures in
    omega (arith, sum_fits (runs_in c.args.runs.runs) given.0 c.loop-i.invariant fits.0 c.below.ensures)

pub below-requires-in-loop-i : goal.below-requires-in-loop-i
below-requires-in-loop-i c = below-fits _ _ (runs_in c.args.runs.runs) c.requires.0 c.requires.1 _ c.end-start.ensures

pub loop-i-preserved : goal.loop-i-preserved
loop-i-preserved c =
    meet-next c.requires.1 c.loop-i.invariant c.end-start.ensures c.end-end.ensures c.below.ensures c.below-in-loop-i.ensures

pub returns : goal.returns
returns c = meet-end c.requires.1 c.requires.0 c.loop-i.invariant c.loop-i-test.false

pub returns-2 : goal.returns-2
returns-2 c =
    meet-end c.requires.1 c.requires.0
    (meet-next c.requires.1 c.loop-i.invariant c.end-start.ensures c.end-end.ensures c.below.ensures c.below-in-loop-i.ensures)
    (omega arith)
