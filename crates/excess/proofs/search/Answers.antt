-- The average tells (proofs/Average.antt), or the walk does (proofs/Walks.antt).
use Rattle.excess.proofs.Average.{crowded}
use Rattle.excess.proofs.Walks.{says-turns}
use Rattle.excess.proofs.search.Goals as goal

pub returns-then-crowd : goal.returns-then-crowd
returns-then-crowd c = crowded _ _ _ (c.crowd.ensures c.if-crowd.true)

pub returns-then-affords : goal.returns-then-affords
returns-then-affords c = says-turns _ _ _ _ _ c.walk.result c.walk.ensures
