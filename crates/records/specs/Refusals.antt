-- docs/RULES.md, the table of refusals 1 to 11 and 14 to 19, and the one order in which they are checked. Definitions only.
--
--     sizes, room, range          1, 2 and 3
--     slot_refusal w b s          15 to 18: what is wrong with slot s behind a slot that ends at b, 0 for nothing
--     end_before slot i           where the slot before slot i ends, 0 before the first
--     trouble_at w slot i         what is wrong with slot i of a table
--     first_bad w slot n          the number of the first bad one of n slots, 0 for none
--     table_refusal w slot n      14 for too many slots, or the first bad one's
--     slots_refusal r l           the same of the table that a task record selects
--     board_refusal r l           3, 19, 4 and 14 to 18 of it
--     body_refusal r l            all of a task record on a slot buffer: those of the board, then 6 to 10
--     beyond w x                  11
--     judge_refusal t l reply     as judging checks them: 1, 2, the body's
--     point_refusal t l x         as every question at a half tick x checks them: 1, the body's, 11
--     which_refusal t l           as the question which slot is bad checks them: 1, the board's
--     job_of r                    what an accepted task record is turned into
--
-- The part's first slot has nothing before it: the record in front of `first` isn't the previous slot. Every record of the part is tested,
-- and the slot before it is the record before it, whoever owns them.
use Rattle.std.specs.Prelude.{not, ◌||◌, List, ℕ, zero, suc, ◌+◌, ◌-◌, ◌*◌, ◌/◌, ◌%◌, leb, ltb, eqb, length}
use Rattle.limits.specs.Refusal.{◌when◌, ◌otherwise◌}
use Rattle.limits.specs.Limits.{most_slots, id_refusal, wheel_refusal, task_refusal, task_of}
use Rattle.records.specs.Records.{task_bytes, slot_bytes, reply_bytes, task_record, slot_at}
use Rattle.records.specs.declared.TaskRecord.{TaskRecord}
use Rattle.records.specs.declared.Slot.{Slot}
use Rattle.records.specs.declared.Job.{Job}

unfoldable pub sizes : List ℕ → List ℕ → ℕ
sizes task slots = 1 when (not (eqb (length task) task_bytes) || not (eqb (length slots % slot_bytes) 0))

unfoldable pub room : List ℕ → ℕ
room reply = 2 when ltb (length reply) reply_bytes

unfoldable pub range : TaskRecord → List ℕ → ℕ
range r slots = 3 when ltb (length slots / slot_bytes) (r.first + r.count)

unfoldable pub slot_refusal : ℕ → ℕ → Slot → ℕ
slot_refusal w before s =
    15 when leb s.end s.start
    otherwise 16 when ltb w s.end
    otherwise 17 when ltb s.start before
    otherwise 18 when ltb (s.end - s.start) s.loss

unfoldable pub end_before : (ℕ → Slot) → ℕ → ℕ
end_before slot zero = 0
end_before slot (suc i) = (slot i).end

abbrev pub trouble_at : ℕ → (ℕ → Slot) → ℕ → ℕ
trouble_at w slot i = slot_refusal w (end_before slot i) (slot i)

unfoldable pub first_bad : ℕ → (ℕ → Slot) → ℕ → ℕ
first_bad w slot zero = 0
first_bad w slot (suc i) = first_bad w slot i otherwise trouble_at w slot i

unfoldable pub table_refusal : ℕ → (ℕ → Slot) → ℕ → ℕ
table_refusal w slot n = 14 when ltb most_slots n otherwise first_bad w slot n

unfoldable pub slots_refusal : TaskRecord → List ℕ → ℕ
slots_refusal r slots = table_refusal r.w (slot_at slots r.first) r.count

-- The refusals of a slot table, then those of the task.
unfoldable pub board_refusal : TaskRecord → List ℕ → ℕ
board_refusal r slots =
    range r slots otherwise id_refusal r.id otherwise wheel_refusal r.w otherwise slots_refusal r slots

unfoldable pub body_refusal : TaskRecord → List ℕ → ℕ
body_refusal r slots = board_refusal r slots otherwise task_refusal r.e r.d r.h r.m r.k

unfoldable pub beyond : ℕ → ℕ → ℕ
beyond w offset = 11 when leb (2 * w) offset

unfoldable pub judge_refusal : List ℕ → List ℕ → List ℕ → ℕ
judge_refusal task slots reply = sizes task slots otherwise room reply otherwise body_refusal (task_record task) slots

unfoldable pub point_refusal : List ℕ → List ℕ → ℕ → ℕ
point_refusal task slots offset =
    sizes task slots
    otherwise body_refusal (task_record task) slots
    otherwise beyond (task_record task).w offset

unfoldable pub which_refusal : List ℕ → List ℕ → ℕ
which_refusal task slots = sizes task slots otherwise board_refusal (task_record task) slots

abbrev pub job_of : TaskRecord → Job
job_of r =
    record {
      wheel = record { w = r.w };
      owner = r.id;
      first = r.first;
      count = r.count;
      task = task_of r.e r.d r.h r.m r.k;
    }
