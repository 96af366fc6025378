-- What whole turns leave of the need decides in the rest window, and they add to its lowest supply (proofs/Round.antt).
use Rattle.std.proofs.Common.{ℕ, ◌∙◌, ◌≤◌, ◌%◌, List, w32, arith}
use Rattle.std.proofs.Math.Nat.{mod-le}
use Rattle.std.proofs.lemmas.Int.{to_z-of_z}
use Rattle.runs.specs.Runs.{Runs}
use Rattle.runs.proofs.Ordered.{runs_in}
use Rattle.late.specs.Late.{Laying}
use Rattle.late.proofs.Round.{need-le, low_small, late-round}
use Rattle.late.proofs.late.Goals as goal

-- The lowest supply of the rest window is within the deadline.
low-within :
    {l : List ℕ} {w d need side : ℕ} {out : List ℕ} {r low : ℕ} {out' : List ℕ} → Runs l w
    → Laying l w (d % w) need side out r low out' → low ≤ d
low-within {w = w} {d} runs laying = omega (arith, low_small _ _ _ _ _ _ _ _ _ runs laying, mod-le d w)

pub overflow_add-turned : goal.overflow_add-turned
overflow_add-turned c =
    let low = low-within (runs_in c.args.runs.runs) c.around-end.ensures in
    omega (arith, c.turned-turned.ensures.0, c.requires.0.deadline)

-- `left` is only for must-fail/need_left_for_need.edit, so that it falls by `returns`, its false fact.
pub over-requires : goal.over-requires
over-requires c =
    let low = low-within (runs_in c.args.runs.runs) c.around-end.ensures in
    let left : c.need-left.result ≤ c.args.task.e = rw c.need-left.ensures (need-le _ _ _) in
    omega (arith, c.turned-turned.ensures.0, c.requires.0.deadline, c.requires.0.need)

pub returns : goal.returns
returns c =
    late-round _ _ _ _ _ _ _ _ _ _ _ c.requires.1 c.requires.2 c.turned-turned.ensures.1 c.need-left.ensures c.around-end.ensures
    (to_z-of_z w32 _ (record { sfits = c.over.type_inv }) ∙ c.over.ensures)
