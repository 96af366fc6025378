-- `ticks::span`: a turn and the ticks behind it (proofs/Spans.antt).
use Rattle.std.proofs.Common.{arith}
use Rattle.ticks.proofs.Spans.{span-turn}
use Rattle.ticks.proofs.span.Goals as goal

pub returns-then-from-to : goal.returns-then-from-to
returns-then-from-to c = span-turn _ _ _ _ _ _ _ (omega arith) c.if-from-to.true c.turn.ensures
