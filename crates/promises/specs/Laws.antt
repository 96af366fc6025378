-- What follows for callers from the contracts, shown in proofs/Laws.antt, of the second engine in proofs/Rounds.antt.
-- Definitions only: each name is a statement.
--
--     CountCertain    a task that was judged is counted from every half tick of the wheel
--     WorstCounted    counting at the worst offset gives the worst count, and no half tick gives more
--     LeastMeasured   no half tick of a task that was judged has a margin below twice the least one, and some whole tick has just that
--     QuickAgrees     what judging reads firm or not, or refuses, the question just yes or no says and refuses alike
--     GrantNone       a grant is of no slots exactly when m is 0, and then no mark moves
--     GrantCertain    the task is granted where nothing is refused and all free slots together are firm
--     RoundsTable     the refusals by whole rounds are the table's: only the bound of 9 is another
--     EnginesAgree    wherever the first engine's number isn't 9 the second one gives the same number and the same bytes
--     CountsAgree     wherever the first engine's refusal of a half tick isn't 9 the second one has the same refusal and the same count
--     RoundsCounted   as WorstCounted, of the second engine
use Rattle.std.specs.Prelude.{◌≡◌, ◌↔◌, Bool, List, ℕ, ◌*◌, ◌≤◌, ◌<◌, ltb, ℤ, pos, ◌*ℤ◌, ◌≤ℤ◌, length}
use Rattle.rules.specs.Sums.{bit}
use Rattle.rules.specs.Worst.{Worst, Firm}
use Rattle.rules.specs.Least.{Least}
use Rattle.rules.specs.Grant.{grid_ticks}
use Rattle.limits.specs.Refusal.{◌when◌, ◌otherwise◌}
use Rattle.limits.specs.Limits.{outside, most_need, most_period, most_in_rounds}
use Rattle.records.specs.Records.{reply_bytes, task_record, ticks_of, asked_of}
use Rattle.records.specs.Refusals.{board_refusal, judge_refusal, point_refusal}
use Rattle.records.specs.declared.TaskRecord.{TaskRecord}
use Rattle.ticks.specs.Ticks.{free_of}
use Rattle.judge.specs.Judge.{Judged}
use Rattle.judge.specs.Points.{margin_at, counted_at}
use Rattle.quick.specs.Quick.{Quick}
use Rattle.rounds.specs.Rounds.{rounds_body, rounds_judge_refusal, rounds_point_refusal, rounds_counted_at, RoundsJudged}
use Rattle.grants.specs.Grants.{grant_refusal, asked_for, GrantCall}
use Rattle.promises.specs.Answers.{Told}
use Rattle.promises.specs.declared.read.Answer.{Answer}

abbrev pub CountCertain : Type 0
CountCertain =
    (task slots reply : List ℕ) (x : ℕ)
    → judge_refusal task slots reply ≡ 0 → x < 2 * (task_record task).w → point_refusal task slots x ≡ 0

abbrev pub WorstCounted : Type 0
WorstCounted =
    (task slots reply : List ℕ) (c o : ℕ)
    → judge_refusal task slots reply ≡ 0 → Worst (task_record task).w (ticks_of (task_record task) slots) (asked_of (task_record task)) c o
    → (counted_at task slots o ≡ c) × ((x : ℕ) → counted_at task slots x ≤ c)

abbrev pub LeastMeasured : Type 0
LeastMeasured =
    (task slots reply : List ℕ) (g : ℤ)
    → judge_refusal task slots reply ≡ 0 → Least (task_record task).w (ticks_of (task_record task) slots) (asked_of (task_record task)) g
    → ((x : ℕ) → x < 2 * (task_record task).w → (pos 2 *ℤ g) ≤ℤ margin_at task slots x)
    × ((a : ℕ) × (a < (task_record task).w) × (margin_at task slots (2 * a) ≡ (pos 2 *ℤ g)))

-- With number 1 judging writes nothing, so no bit is there to read.
abbrev pub QuickAgrees : Type 0
QuickAgrees =
    (task slots reply : List ℕ) (a : Answer) (n : ℕ) (b : Bool)
    → reply_bytes ≤ length reply → Told task slots reply a → Quick task slots n b
    → (a.number ≡ n) × ((n ≡ 1 → ⊥) → a.firm ≡ bit b)

abbrev pub GrantNone : Type 0
GrantNone =
    (l : List ℕ) (v loss e D h m k j : ℕ) (after : List ℕ)
    → GrantCall l v loss e D h m k 0 j after → ((j ≡ 0) ↔ (m ≡ 0)) × (m ≡ 0 → after ≡ l)

abbrev pub GrantCertain : Type 0
GrantCertain =
    (l : List ℕ) (v loss e D h m k n j : ℕ) (after : List ℕ)
    → GrantCall l v loss e D h m k n j after → grant_refusal l v loss e D h m k ≡ 0
    → Firm (grid_ticks (length l) v loss (free_of l)) (asked_for e D h m k) → n ≡ 0

abbrev pub RoundsTable : Type 0
RoundsTable =
    (r : TaskRecord) (l : List ℕ)
    → rounds_body r l
    ≡ (board_refusal r l
    otherwise 6 when outside r.e most_need
    otherwise 7 when outside r.h most_period
    otherwise 8 when outside r.d r.h
    otherwise 9 when outside r.k most_in_rounds
    otherwise 10 when ltb r.k r.m)

abbrev pub EnginesAgree : Type 0
EnginesAgree =
    (task slots reply : List ℕ) (n n' : ℕ) (after after' : List ℕ)
    → Judged task slots reply n after → RoundsJudged task slots reply n' after' → (n ≡ 9 → ⊥) → (n ≡ n') × (after ≡ after')

abbrev pub CountsAgree : Type 0
CountsAgree =
    (task slots : List ℕ) (x : ℕ)
    → (point_refusal task slots x ≡ 9 → ⊥)
    → (rounds_point_refusal task slots x ≡ point_refusal task slots x) × (rounds_counted_at task slots x ≡ counted_at task slots x)

abbrev pub RoundsCounted : Type 0
RoundsCounted =
    (task slots reply : List ℕ) (c o : ℕ)
    → rounds_judge_refusal task slots reply ≡ 0 → Worst (task_record task).w (ticks_of (task_record task) slots) (asked_of (task_record task)) c o
    → (rounds_counted_at task slots o ≡ c) × ((x : ℕ) → rounds_counted_at task slots x ≤ c)
