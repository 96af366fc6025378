-- One law for each way out (proofs/Halves.antt).
use Rattle.std.proofs.Common.{arith}
use Rattle.grants.proofs.Halves.{halve-end, grant-none, halve-start, none_free, nothing-firm}
use Rattle.grants.proofs.offer.find.Goals as goal

pub returns-then-task-eq0 : goal.returns-then-task-eq0
returns-then-task-eq0 c = (grant-none _ c.args.grid _ c.if-task-eq0.true, omega arith)

pub returns-then-all-eq0 : goal.returns-then-all-eq0
returns-then-all-eq0 c =
    none_free _ c.args.grid _ c.requires.1.asks (omega arith) c.requires.1.painted _ c.free-all.ensures.0 c.if-all-eq0.true

pub halve-requires : goal.halve-requires
halve-requires c =
    halve-start _ _ _ c.requires.1.asks (omega arith) c.requires.1.painted _ c.free-all.ensures.0 (omega arith)
    (c.firm.ensures.yes-firm c.if-firm.true)

pub returns-then-firm : goal.returns-then-firm
returns-then-firm c = halve-end _ _ _ _ c.halve.ensures

pub returns : goal.returns
returns c = nothing-firm _ c.args.grid _ _ c.free-all.ensures.0 (c.firm.ensures.not-firm c.if-firm.false)
