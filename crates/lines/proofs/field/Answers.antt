-- `lines::field` meets its contract: std's digits, then the byte behind them. Assumes nothing.
use Rattle.std.proofs.Common.{◌≡◌, ◌∙◌, sym, ap, arith, length}
use Rattle.lines.specs.Lines.{decimal}
use Rattle.lines.proofs.Decimals.{decimal-is}
use Rattle.lines.proofs.Texts.{put_then}
use Rattle.lines.proofs.field.Goals as goal

pub put-next-requires : goal.put-next-requires
put-next-requires c =
    let text : c.as_bytes.result.now ≡ decimal c.args.n =
    c.as_bytes.ensures.value ∙ c.format.ensures.text ∙ sym (decimal-is c.args.n c.ranges.n.fits) in
    omega (arith, ap length text)

pub put-requires : goal.put-requires
put-requires c =
    let text : c.as_bytes.result.now ≡ decimal c.args.n =
    c.as_bytes.ensures.value ∙ c.format.ensures.text ∙ sym (decimal-is c.args.n c.ranges.n.fits) in
    omega (arith, ap length text, c.put-next.ensures.behind)

pub returns : goal.returns
returns c =
    let text : c.as_bytes.result.now ≡ decimal c.args.n =
    c.as_bytes.ensures.value ∙ c.format.ensures.text ∙ sym (decimal-is c.args.n c.ranges.n.fits) in
    put_then (omega arith) (rw text at c.put-next.ensures) c.put.ensures
