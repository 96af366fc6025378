-- What judging by whole rounds has given and left is what docs/RULES.md names. Assumes nothing.
use mathlib.Core.List.{List}
use Prim.Native.Nat.{ℕ}
use Rattle.records.specs.Records.{task_record}
use Rattle.judge.proofs.Replies.{Called}
use Rattle.rounds.specs.Rounds.{rounds_body, rounds_judge_refusal, RoundsJudged}

pub judged :
    (task slots reply : List ℕ) {n : ℕ} {after : List ℕ} → Called task slots reply (rounds_body (task_record task) slots) n after
    → RoundsJudged task slots reply n after
unfolding rounds_judge_refusal
judged task slots reply (number, left) =
    record { number = number; silent = left.silent; refused = left.refused; answered = left.answered }
