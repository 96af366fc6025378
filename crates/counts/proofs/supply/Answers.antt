-- `counts::supply`: twice a tick's supply, or that of two neighbours (proofs/Halves.antt).
use Rattle.counts.proofs.Halves.{half-even, half-odd}
use Rattle.counts.proofs.supply.Goals as goal

pub returns-then-x-eq0 : goal.returns-then-x-eq0
returns-then-x-eq0 c = half-even _ _ _ _ _ c.window-here.ensures c.if-x-eq0.true

pub returns : goal.returns
returns c = half-odd _ _ _ _ _ _ c.window-here.ensures c.window.ensures c.if-x-eq0.false
