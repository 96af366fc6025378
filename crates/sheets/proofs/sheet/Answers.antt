-- `sheets::sheet` meets its contract: one line alone, whole records, or whole records and a part. Assumes nothing.
use Rattle.std.proofs.Common.{◌+◌, ◌≤◌, length, arith, sym, ◌∙◌}
use Rattle.lines.specs.Lines.{refused_long}
use Rattle.sheets.proofs.Fills.{bad-short, refused_end, filled-alone, filled-whole, filled-part, counts}
use Rattle.sheets.proofs.sheet.Goals as goal

pub returns-then-only-clause-filled : goal.returns-then-only-clause-filled
returns-then-only-clause-filled c =
    let long : refused_long ≤ length c.args.out.now = omega arith in
    filled-alone _ _ _ (sym c.only.ensures ∙ c.if-only.true) long c.refused.ensures

pub returns-then-only-clause-prefix_len : goal.returns-then-only-clause-prefix_len
returns-then-only-clause-prefix_len c =
    let long : refused_long ≤ length c.args.out.now = omega arith in
    let end = refused_end c.args.out.now 0 long c.refused.ensures in
    (counts _ c.refused.new.out (omega arith), omega arith)

pub rows-at-requires : goal.rows-at-requires
rows-at-requires c = omega (arith, bad-short _ _ (sym c.only.ensures ∙ c.if-only.false))

pub returns-then-tasks-eq0-clause-filled : goal.returns-then-tasks-eq0-clause-filled
returns-then-tasks-eq0-clause-filled c =
    filled-whole _ _ _ (sym c.only.ensures ∙ c.if-only.false) c.rows-at.ensures c.if-tasks-eq0.true

pub returns-then-tasks-eq0-clause-prefix_len : goal.returns-then-tasks-eq0-clause-prefix_len
returns-then-tasks-eq0-clause-prefix_len c =
    let short = bad-short _ _ (sym c.only.ensures ∙ c.if-only.false) in
    (counts _ c.rows-at.new.out (omega arith), omega arith)

pub returns-clause-filled : goal.returns-clause-filled
returns-clause-filled c =
    let good = sym c.only.ensures ∙ c.if-only.false in
    let short = bad-short _ _ good in
    let room : c.rows-at.result + refused_long ≤ length c.rows-at.new.out = omega arith in
    filled-part _ _ _ good c.rows-at.ensures c.if-tasks-eq0.false room c.refused-2.ensures

pub returns-clause-prefix_len : goal.returns-clause-prefix_len
returns-clause-prefix_len c =
    let short = bad-short _ _ (sym c.only.ensures ∙ c.if-only.false) in
    let room : c.rows-at.result + refused_long ≤ length c.rows-at.new.out = omega arith in
    let end = refused_end c.rows-at.new.out c.rows-at.result room c.refused-2.ensures in
    (counts _ c.refused-2.new.out (omega arith), omega arith)
