-- `lines::line` meets its contract: nothing is put where a length is wrong. Assumes nothing.
use Rattle.std.proofs.Common.{arith}
use Rattle.lines.proofs.Texts.{line-short, line-whole, put-unfit, put_fit}
use Rattle.lines.proofs.line.Goals as goal

pub returns-then-answer-ne-BYTES : goal.returns-then-answer-ne-BYTES
returns-then-answer-ne-BYTES c = (line-short _ _ _ c.if-answer-ne-BYTES.true, omega arith)

pub returns-then-not-fits : goal.returns-then-not-fits
returns-then-not-fits c =
    (line-whole _ _ _ c.if-answer-ne-BYTES.false (put-unfit _ _ _ _ _ c.fits.ensures c.if-not-fits.true), omega arith)

pub returns : goal.returns
returns c = (
  line-whole _ _ _ c.if-answer-ne-BYTES.false (put_fit _ _ _ _ _ c.fits.ensures c.if-not-fits.false c.fields.ensures.0),
  omega arith,
)
