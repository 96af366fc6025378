-- What a site wrote into a place, field by field (proofs/Replies.antt).
use Rattle.promises.proofs.Replies.{site-told}
use Rattle.promises.proofs.read.site.Goals as goal

pub returns : goal.returns
returns c = site-told _ _ _ _ _ c.requires.0 c.requires.1 _ c.type_inv.tasks c.fiddlequill_site-number.ensures c.fields.ensures
