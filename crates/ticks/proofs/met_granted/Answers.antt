-- `ticks::met_granted`: one law for each way out (proofs/Marks.antt).
use Rattle.std.proofs.Common.{sym, ◌∙◌}
use Rattle.ticks.proofs.Marks.{met-last, met-few, met-taken}
use Rattle.ticks.proofs.met_granted.Goals as goal
use Rattle.ticks.proofs.met_granted.Goals.{else-free-via-then-free+else-all-j, else-free-via-else-free}

pub returns-then-all-j : goal.returns-then-all-j
returns-then-all-j c =
    met-last _ c.args.g _ _ c.requires.wheel.0 c.requires.all_free (sym c.free.ensures ∙ c.if-free.true) c.if-all-j.true

pub returns-else-free : goal.returns-else-free
returns-else-free c =
    elim c.else-free.branch [
      | else-free-via-then-free+else-all-j w ↦ met-few _ c.args.g _ _ c.requires.wheel.0 c.requires.all_free w.if-all-j.false
      | else-free-via-else-free w ↦ met-taken _ c.args.g _ _ c.requires.wheel.0 c.requires.all_free (sym c.free.ensures ∙ w.if-free.false)
    ]
