-- The site file's part comes before the factory file's (proofs/Places.antt).
use Rattle.std.proofs.Common.{rules, refl, ◌∙◌, ap}
use Rattle.lookup.proofs.Places.{handed}
use Rattle.lookup.proofs.lookup.Goals as goal

pub returns : goal.returns
returns c =
    ap (λ r. r.now) c.unwrap_or.ensures
    ∙ handed c.args.site.now c.args.factory.now c.args.id _ c.find.result c.or_else.result _ refl c.find.ensures c.or_else.ensures (λ h. search rules)
