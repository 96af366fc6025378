-- A law for each way a line may go (proofs/Pieces.antt).
use Rattle.late.proofs.Pieces.{piece-rises, piece-below, piece-falls, piece-above}
use Rattle.late.proofs.piece.Leg.crossing.Goals as goal

pub returns-then-self : goal.returns-then-self
returns-then-self c = piece-rises _ _ _ _ _ _ c.args.self.slope c.args.short.half c.if-self-short.true c.if-self.true

pub returns-then-self-short : goal.returns-then-self-short
returns-then-self-short c = piece-below _ _ _ _ _ _ c.args.self.slope c.args.short.half c.if-self-short.true c.if-self.false

pub returns-then-self-2 : goal.returns-then-self-2
returns-then-self-2 c = piece-falls _ _ _ _ _ _ c.args.self.slope c.args.short.half c.if-self-short.false c.if-self-2.true

pub returns : goal.returns
returns c = piece-above _ _ _ _ _ _ c.args.self.slope c.args.short.half c.if-self-short.false c.if-self-2.false
