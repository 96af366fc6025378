-- A site judged on equal bytes: answer and reply are equal.
use Rattle.promises.proofs.Settled.{twice, site-settled, same-refusals}
use Rattle.promises.proofs.twice.site.Goals as goal

pub returns : goal.returns
returns c =
    let same = twice (site-settled _ _) c.requires c.site.ensures c.site-2.ensures in
    (same-refusals _ _ same.0, same.1)
