-- docs/RULES.md, "One table for the board", by an example: the sheet's first task, a painter, on two boards that differ in all but its own slots.
-- Definitions only: the last name is a statement, shown in proofs/TwoBoards.antt.
--
--     slot_record a b o      the bytes of a slot record from a to b with owner o
--     painter first count    the bytes of P11's task, with id 1
--     one                    a buffer of five records, all the painter's board: the clock (2) twice, the chime (3) between the painter's slots
--     two                    a buffer of seven records, the painter's board from the third on: records 0 and 1 are of another board
--     TwoBoards              they are twins, though the others differ in their slots, in their order and in where the painter's stand
--
--     one      clock (0,5)       painter (11,21)   chime (21,30)     painter (33,43)   clock (50,55)
--     two      painter (0,55)    clock (0,9)       chime (3,4)       painter (11,21)   clock (22,24)     chime (24,33)     painter (33,43)
use Rattle.std.specs.Prelude.{◌≡◌, true, false, List, [], ◌∷◌, ◌++◌, ℕ}
use Rattle.octets.specs.Octets.{bytes2, bytes4}
use Rattle.rules.specs.Usable.{Slot}
use Rattle.rules.specs.Worst.{Worst}
use Rattle.records.specs.Records.{task_record, owned, ticks_of, asked_of}
use Rattle.promises.specs.Boards.{own_slots, Twins, SameSlots}

abbrev slot : ℕ → ℕ → Slot
slot a b = record { start = a; end = b; loss = 0 }

abbrev pub slot_record : ℕ → ℕ → ℕ → List ℕ
slot_record a b o = bytes4 a ++ bytes4 b ++ bytes2 o ++ bytes2 0

abbrev pub painter : ℕ → ℕ → List ℕ
painter first count =
    bytes4 1
    ++ bytes4 55
    ++ bytes4 27
    ++ bytes4 70
    ++ bytes4 70
    ++ bytes4 3
    ++ bytes4 10
    ++ bytes2 first
    ++ bytes2 count

abbrev pub one : List ℕ
one = slot_record 0 5 2 ++ slot_record 11 21 1 ++ slot_record 21 30 3 ++ slot_record 33 43 1 ++ slot_record 50 55 2

abbrev pub two : List ℕ
two =
    slot_record 0 55 1
    ++ slot_record 0 9 2
    ++ slot_record 3 4 3
    ++ slot_record 11 21 1
    ++ slot_record 22 24 2
    ++ slot_record 24 33 3
    ++ slot_record 33 43 1

pub record TwoBoards : Type 0 where
  pub twins : Twins (painter 0 5) one (painter 2 5) two
  pub same : SameSlots (painter 0 5) one (painter 2 5) two
  pub clock : (own_slots one 0 2 5 ≡ slot 0 5 ∷ slot 50 55 ∷ []) × (own_slots two 2 2 5 ≡ slot 22 24 ∷ [])
  pub chime : (own_slots one 0 3 5 ≡ slot 21 30 ∷ []) × (own_slots two 2 3 5 ≡ slot 3 4 ∷ slot 24 33 ∷ [])
  pub places : (owned one 0 1 3 ≡ true) × (owned two 2 1 3 ≡ false)
  pub worst : Worst 55 (ticks_of (task_record (painter 0 5)) one) (asked_of (task_record (painter 0 5))) 7 39
