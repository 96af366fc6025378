-- docs/RULES.md, "Whole rounds": counting and judging by the second engine, for every byte string. Definitions only.
--
--     one_strip r                        the task record r with one strip, which needn't be painted: 9 and 10 let it pass
--     rounds_body r l                    all of a task record on a slot buffer: those of one strip, then 9 and 10 by this engine's bound
--     rounds_judge_refusal t l reply     as judging checks them: 1, 2, the body's
--     rounds_point_refusal t l x         as counting checks them: 1, the body's, 11
--     RoundsChecked r l x                x is the job of an accepted task record, or its refusal
--     rounds_counted_at t l x            the drop count from half tick x, 0 beside a refusal
--     RoundsJudged t l reply n after     a whole call: task t, slots l, reply before and after, refusal number n
--
-- The answer is judging's own: `Answered` of crates/judge/specs/Judge.antt has no bound on k.
use Rattle.std.specs.Prelude.{◌≡◌, ◌⊎◌, List, ℕ, ◌<◌, pos, Result}
use Rattle.rules.specs.Supply.{count}
use Rattle.octets.specs.Octets.{over}
use Rattle.limits.specs.Refusal.{◌otherwise◌, if_none, Checks}
use Rattle.limits.specs.declared.Refusal.{Refusal}
use Rattle.limits.specs.Limits.{rounds_refusal}
use Rattle.records.specs.Records.{task_record, ticks_of, asked_of, answer_bytes}
use Rattle.records.specs.Refusals.{sizes, room, body_refusal, beyond, job_of}
use Rattle.records.specs.declared.TaskRecord.{TaskRecord}
use Rattle.records.specs.declared.Job.{Job}
use Rattle.judge.specs.Judge.{Answered}

abbrev pub one_strip : TaskRecord → TaskRecord
one_strip r =
    record {
      id = r.id;
      w = r.w;
      e = r.e;
      d = r.d;
      h = r.h;
      m = 0;
      k = 1;
      first = r.first;
      count = r.count;
    }

unfoldable pub rounds_body : TaskRecord → List ℕ → ℕ
rounds_body r slots = body_refusal (one_strip r) slots otherwise rounds_refusal r.m r.k

unfoldable pub rounds_judge_refusal : List ℕ → List ℕ → List ℕ → ℕ
rounds_judge_refusal task slots reply = sizes task slots otherwise room reply otherwise rounds_body (task_record task) slots

unfoldable pub rounds_point_refusal : List ℕ → List ℕ → ℕ → ℕ
rounds_point_refusal task slots offset =
    sizes task slots
    otherwise rounds_body (task_record task) slots
    otherwise beyond (task_record task).w offset

abbrev pub RoundsChecked : TaskRecord → List ℕ → Result Job Refusal → Type 0
RoundsChecked r slots = Checks (rounds_body r slots) (job_of r)

unfoldable pub rounds_counted_at : List ℕ → List ℕ → ℕ → ℕ
rounds_counted_at task slots x =
    if_none (rounds_point_refusal task slots x) (count 2 (ticks_of (task_record task) slots) (asked_of (task_record task)) x) 0

-- Numbers 1 and 2 write nothing. Any other number goes into the record with the task's id, the rest zero.
pub record RoundsJudged (task slots reply : List ℕ) (n : ℕ) (after : List ℕ) : Type 0 where
  pub number : n ≡ rounds_judge_refusal task slots reply
  pub silent : (n ≡ 1) ⊎ (n ≡ 2) → after ≡ reply
  pub refused : 2 < n → after ≡ over (answer_bytes (task_record task).id n 0 0 0 (pos 0)) reply
  pub answered : n ≡ 0 → Answered task slots reply after
