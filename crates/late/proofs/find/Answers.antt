-- The first edge that isn't below x ends the run that x lies in (proofs/Cursors.antt).
use Rattle.std.proofs.Common.{suc, length, arith}
use Rattle.runs.proofs.Edges.{edge-read, edge-past}
use Rattle.late.proofs.Cursors.{cursor-found}
use Rattle.late.proofs.find.Goals as goal

pub returns-then-x-from : goal.returns-then-x-from
returns-then-x-from c =
    let end = edge-read c.args.runs.edges.now c.args.runs.w c.loop-i.i c.loop-i-test.true in
    cursor-found _ _ _ _ (omega arith) c.loop-i.invariant (omega (arith, c.from.ensures, c.if-x-from.true))

pub returns : goal.returns
returns c =
    let end = edge-past c.args.runs.edges.now c.args.runs.w (suc (length c.args.runs.edges.now)) (omega arith) in
    cursor-found _ _ _ _ (omega arith) (λ k less. c.loop-i.invariant k (omega arith)) (omega (arith, c.requires))
