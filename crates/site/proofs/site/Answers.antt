-- One law for each way out (proofs/Sites.antt). Assumes nothing.
use Rattle.judge.proofs.Exits.{passed}
use Rattle.site.specs.Site.{site_room}
use Rattle.site.proofs.Sites.{roomy, sited-sizes, sited-room, sited-walked}
use Rattle.site.proofs.site.Goals as goal

pub returns-in_err-whole : goal.returns-in_err-whole
returns-in_err-whole c = rw (passed _ _ c.from_residual.ensures.1) (sited-sizes _ _ _ _ c.in_err-whole.ensures)

pub returns-in_err-when : goal.returns-in_err-when
unfolding site_room
returns-in_err-when c = rw (passed _ _ c.from_residual-in_err-when.ensures.1) (sited-room _ _ _ c.in_ok-whole.ensures.0 _ c.in_err-when.ensures)

pub walk-requires : goal.walk-requires
unfolding site_room
walk-requires c = roomy _ _ _ c.in_ok-whole.ensures.0 c.in_ok-when.ensures.0

pub returns : goal.returns
unfolding site_room
returns c = sited-walked _ _ _ c.in_ok-whole.ensures.0 _ c.in_ok-when.ensures.0 c.walk.ensures
