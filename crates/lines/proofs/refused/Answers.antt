-- `lines::refused` meets its contract: nothing is put where it doesn't fit. Assumes nothing.
use Rattle.lines.specs.Lines.{refused_line}
use Rattle.lines.proofs.Texts.{put-unfit, put_fit}
use Rattle.lines.proofs.refused.Goals as goal

pub returns-then-not-fits : goal.returns-then-not-fits
returns-then-not-fits c = put-unfit _ _ _ _ _ c.fits.ensures c.if-not-fits.true

pub returns : goal.returns
unfolding refused_line
returns c = put_fit _ _ _ _ _ c.fits.ensures c.if-not-fits.false c.put.ensures
