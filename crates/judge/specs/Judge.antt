-- docs/RULES.md, judging: what is returned and what the reply holds afterwards, for every byte string. Definitions only.
--
--     Outcome r l n x               x is what comes of the task record r on a slot buffer l: worst count and offset, least margin and firm bit
--                                   where n is 0, else the refusal with that number
--     Answered t l reply after      the accepted task's answer: demand 3 of the bytes that were written
--     Judged t l reply n after      a whole call: task t, slots l, reply before and after, refusal number n
use Rattle.std.specs.Prelude.{◌≡◌, ◌⊎◌, ◌↔◌, Bool, true, List, ℕ, ◌<◌, ℤ, pos, Result, Ok, Err}
use Rattle.rules.specs.Sums.{bit}
use Rattle.rules.specs.Worst.{Worst, Firm, firm_test}
use Rattle.rules.specs.Least.{Least}
use Rattle.octets.specs.Octets.{over}
use Rattle.limits.specs.Refusal.{number}
use Rattle.limits.specs.declared.Refusal.{Refusal}
use Rattle.records.specs.Records.{task_record, ticks_of, asked_of, answer_bytes}
use Rattle.records.specs.Refusals.{judge_refusal}
use Rattle.records.specs.declared.TaskRecord.{TaskRecord}
use Rattle.records.specs.declared.answer.Found.{Found}

abbrev pub Outcome : TaskRecord → List ℕ → ℕ → Result Found Refusal → Type 0
Outcome r slots n (Ok f) =
    (n ≡ 0) × (f.firm ≡ firm_test (asked_of r) f.drops) × Worst r.w (ticks_of r slots) (asked_of r) f.drops f.offset
    × Least r.w (ticks_of r slots) (asked_of r) f.margin
Outcome r slots n (Err bad) = number bad ≡ n

-- The worst count bounds every fraction and is hit at the written half tick and at none before it; the firm bit is 1 exactly when no
-- fraction drops more than k − m; no fraction has less than the written margin, and some whole tick has it.
pub record Answered (task slots reply after : List ℕ) : Type 0 where
  pub drops : ℕ
  pub offset : ℕ
  pub firm : Bool
  pub margin : ℤ
  pub worst : Worst (task_record task).w (ticks_of (task_record task) slots) (asked_of (task_record task)) drops offset
  pub said : (firm ≡ true) ↔ Firm (ticks_of (task_record task) slots) (asked_of (task_record task))
  pub least : Least (task_record task).w (ticks_of (task_record task) slots) (asked_of (task_record task)) margin
  pub bytes : after ≡ over (answer_bytes (task_record task).id 0 (bit firm) drops offset margin) reply

-- Numbers 1 and 2 write nothing. Any other number goes into the record with the task's id, the rest zero.
pub record Judged (task slots reply : List ℕ) (n : ℕ) (after : List ℕ) : Type 0 where
  pub number : n ≡ judge_refusal task slots reply
  pub silent : (n ≡ 1) ⊎ (n ≡ 2) → after ≡ reply
  pub refused : 2 < n → after ≡ over (answer_bytes (task_record task).id n 0 0 0 (pos 0)) reply
  pub answered : n ≡ 0 → Answered task slots reply after
