-- The laws are in proofs/Bytes.antt. Whether a mark is free counts as 1 or 0.
use Rattle.std.proofs.Common.{◌≡◌, ◌+◌, ◌<◌, length, sym, ap, ◌∙◌, arith}
use Rattle.rules.specs.Sums.{bit}
use Rattle.grants.proofs.Bytes.{giving-none, giving-given, giving-late, giving-taken}
use Rattle.grants.proofs.marks.give.Goals as goal
use Rattle.grants.proofs.marks.give.Goals.{then-free+then-seen-j, else-free, else-free-via-then-free+else-seen-j, else-free-via-else-free}

pub loop-mark-init : goal.loop-mark-init
loop-mark-init c = giving-none _ _

pub loop-mark-preserved : goal.loop-mark-preserved
unfolding bit
loop-mark-preserved c =
    let inv = c.loop-mark.invariant in
    let less : c.loop-mark.mark-index < length c.loop-mark.marks = omega (arith, c.loop-mark.auto.marks) in
    elim c.if-free.branch [
      | then-free+then-seen-j w ↦
          let one : c.from-seen.result ≡ 1 = c.from-seen.ensures ∙ ap bit w.if-free.true in
          rw (w.mark-is, one) (giving-given _ _ _ _ _ inv less (sym c.free-free.ensures ∙ w.if-free.true) w.if-seen-j.true)
      | else-free w ↦ elim w.else-free.branch [
        | else-free-via-then-free+else-seen-j w' ↦
            let one : c.from-seen.result ≡ 1 = c.from-seen.ensures ∙ ap bit w'.if-free.true in
            rw (w.mark-is, one) (giving-late _ _ _ _ _ inv less (sym c.free-free.ensures ∙ w'.if-free.true) w'.if-seen-j.false)
        | else-free-via-else-free w' ↦
            let none : c.loop-mark.seen + c.from-seen.result ≡ c.loop-mark.seen =
            omega (arith, c.from-seen.ensures ∙ ap bit w'.if-free.false) in
            rw (w.mark-is, none) (giving-taken _ _ _ _ _ inv less (sym c.free-free.ensures ∙ w'.if-free.false))
      ]
    ]
