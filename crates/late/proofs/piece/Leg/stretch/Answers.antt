-- A piece that doesn't cross the need asks for no edge, and what the crossing says of another is written as edges (proofs/Pieces.antt).
use Rattle.std.proofs.Common.{arith}
use Rattle.late.proofs.Pieces.{stretch-steady}
use Rattle.late.proofs.piece.Leg.stretch.Goals as goal

pub returns-then-steady : goal.returns-then-steady
returns-then-steady c =
    stretch-steady _ _ _ _ _ _ _ _ _ _ c.args.self.slope c.args.short.half c.end.ensures (c.steady.ensures c.if-steady.true) (omega arith)
