-- A law for each way out (proofs/Pieces.antt).
use Rattle.late.proofs.Pieces.{split-later, split-first, split-both}
use Rattle.late.proofs.piece.Cross.split.Goals as goal

pub returns-then-self-eq0 : goal.returns-then-self-eq0
returns-then-self-eq0 c =
    split-later _ _ _ _ _ _ c.args.self.one _ _ c.if-m-eq0.false c.requires.1 c.if-self-eq0.true c.turn.ensures

pub returns-then-m-self : goal.returns-then-m-self
returns-then-m-self c =
    split-first _ _ _ _ _ _ c.args.self.one _ _ c.if-m-eq0.false c.requires.1 c.if-m-self.true c.turn-k.ensures

pub returns : goal.returns
returns c =
    split-both _ _ _ _ _ _ c.args.self.one _ _ c.if-m-eq0.false c.requires.1 _ _ c.if-self-eq0.false c.if-m-self.false c.turn-k.ensures
    c.turn-2.ensures
