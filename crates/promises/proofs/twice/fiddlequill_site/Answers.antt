-- A site judged on equal bytes: number and reply are equal.
use Rattle.promises.proofs.Settled.{twice, site-settled}
use Rattle.promises.proofs.twice.fiddlequill_site.Goals as goal

pub returns : goal.returns
returns c = twice (site-settled _ _) c.requires c.fiddlequill_site.ensures c.fiddlequill_site-2.ensures
