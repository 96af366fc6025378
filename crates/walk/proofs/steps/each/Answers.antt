-- A turn judges one record more (proofs/Walks.antt). Assumes nothing.
use Rattle.walk.proofs.Walks.{walked_none, walked_more, walked_all}
use Rattle.walk.proofs.steps.each.Goals as goal

pub loop-i-init : goal.loop-i-init
loop-i-init g c = walked_none _ _ _

pub loop-i-preserved : goal.loop-i-preserved
loop-i-preserved g c = walked_more _ _ _ _ _ _ c.loop-i.invariant c.one.ensures

pub returns : goal.returns
returns g c = walked_all _ _ _ _ _ c.loop-i.invariant c.loop-i.auto.i-end c.loop-i-test.false
