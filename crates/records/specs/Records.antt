-- docs/RULES.md, "Records": task, slot and answer records. Definitions only.
--
--     task_bytes, slot_bytes, reply_bytes  how long each of them is
--     whole l                              how many whole task records l has; bytes behind the last are ignored
--     part l i                             the bytes of task record i of l
--     task_record l                        the numbers of a task record's bytes
--     slot_at l first i                    the numbers of slot record first + i of the slot buffer l
--     slot_of s                            the rules' slot of a slot record
--     owned l first id i                   slot record first + i belongs to the task with that id
--     board l first n id                   the table of n slot records from `first` on, of which those that belong to id are the painter's
--     board_of r l                         the board that a task record selects, as its owner sees it
--     ticks_of r l                         the ticks that its own slots make usable (rule 1)
--     asked_of r                           the rules' task of a task record
--     answer_bytes id n f c o g            an answer record: id, refusal number, firm 1 or 0, worst count, worst offset, least margin
use Rattle.std.specs.Prelude.{List, ◌++◌, ℕ, ◌+◌, ◌*◌, ◌/◌, eqb, ℤ, length, take, drop}
use Rattle.octets.specs.Octets.{le2, le4, bytes2, bytes4, twos}
use Rattle.rules.specs.Sums.{Subset}
use Rattle.rules.specs.Supply as rules
use Rattle.rules.specs.Usable.{Slot, Table, usable}
use Rattle.records.specs.declared.TaskRecord.{TaskRecord}
use Rattle.records.specs.declared.Slot as code

abbrev pub task_bytes : ℕ
task_bytes = 32

abbrev pub whole : List ℕ → ℕ
whole l = length l / task_bytes

unfoldable pub part : List ℕ → ℕ → List ℕ
part l i = take task_bytes (drop (task_bytes * i) l)

abbrev pub task_record : List ℕ → TaskRecord
task_record l =
    record {
      id = le4 l 0;
      w = le4 l 4;
      e = le4 l 8;
      d = le4 l 12;
      h = le4 l 16;
      m = le4 l 20;
      k = le4 l 24;
      first = le2 l 28;
      count = le2 l 30;
    }

abbrev pub slot_bytes : ℕ
slot_bytes = 12

unfoldable pub slot_at : List ℕ → ℕ → ℕ → code.Slot
slot_at l first i =
    record {
      start = le4 l (slot_bytes * (first + i));
      end = le4 l (slot_bytes * (first + i) + 4);
      owner = le2 l (slot_bytes * (first + i) + 8);
      loss = le2 l (slot_bytes * (first + i) + 10);
    }

abbrev pub slot_of : code.Slot → Slot
slot_of s = record { start = s.start; end = s.end; loss = s.loss }

-- Whose slots are a task's: those whose owner is its id.
unfoldable pub owned : List ℕ → ℕ → ℕ → Subset
owned l first id i = eqb (slot_at l first i).owner id

unfoldable pub board : List ℕ → ℕ → ℕ → ℕ → Table
board l first n id = record { size = n; slot = λ i. slot_of (slot_at l first i); ours = owned l first id }

unfoldable pub board_of : TaskRecord → List ℕ → Table
board_of r l = board l r.first r.count r.id

unfoldable pub ticks_of : TaskRecord → List ℕ → Subset
ticks_of r l = usable r.w (board_of r l)

abbrev pub asked_of : TaskRecord → rules.Task
asked_of r = record { e = r.e; D = r.d; h = r.h; m = r.m; k = r.k }

abbrev pub reply_bytes : ℕ
reply_bytes = 20

abbrev pub answer_bytes : ℕ → ℕ → ℕ → ℕ → ℕ → ℤ → List ℕ
answer_bytes id n f c o g = bytes4 id ++ bytes2 n ++ bytes2 f ++ bytes4 c ++ bytes4 o ++ bytes4 (twos g)
