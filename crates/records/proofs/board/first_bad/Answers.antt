-- The laws of the walk (proofs/Walk.antt).
use Rattle.std.proofs.Common.{sym, ap, ◌∙◌, is_ok, arith}
use Rattle.limits.proofs.Checks.{none_ok}
use Rattle.records.proofs.Walk.{passed_none, passed_more, passed_all}
use Rattle.records.proofs.board.first_bad.Goals as goal

pub loop-i-init : goal.loop-i-init
loop-i-init c = passed_none _ _ _

pub loop-i-preserved : goal.loop-i-preserved
loop-i-preserved c =
    passed_more _ _ _ _ _ _ c.loop-i.invariant (omega arith) c.slot_at-s.ensures
    (none_ok _ _ c.slot_refusal.ensures (sym c.map_err.ensures.variant ∙ ap (λ x. is_ok x) c.in_ok-map_err.was))

pub returns : goal.returns
returns c = passed_all _ _ _ _ _ c.loop-i.invariant (omega arith)
