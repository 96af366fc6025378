-- docs/RULES.md, "Which slot": the place beside a refusal of a table. Definitions only.
--
--     about_slot n         the number n is about one slot: 15 to 18
--     FirstAt f n x i      of n places, i is the first at which f gives a number, and it gives x there
--     Placed x f n t p     t is the number x and, where that is about one slot, p the place of the first bad one; else p is 0
--     TroubleOf r l x t p  the same of the table that a task record selects
--     trouble_number z     the number that z refuses with, 0 where the table is good
--     trouble_place z      the place that it tells, 0 where the table is good
use Rattle.std.specs.Prelude.{◌≡◌, Bool, true, false, ◌&&◌, List, ℕ, ◌<◌, leb, Result, Ok, Err}
use Rattle.limits.specs.Refusal.{number}
use Rattle.records.specs.Records.{slot_at}
use Rattle.records.specs.Refusals.{trouble_at}
use Rattle.records.specs.declared.TaskRecord.{TaskRecord}
use Rattle.records.specs.declared.board.Trouble.{Trouble}

unfoldable pub about_slot : ℕ → Bool
about_slot n = leb 15 n && leb n 18

pub record FirstAt (f : ℕ → ℕ) (n x i : ℕ) : Type 0 where
  pub inside : i < n
  pub here : f i ≡ x
  pub before : (j : ℕ) → j < i → f j ≡ 0

pub record Placed (x : ℕ) (f : ℕ → ℕ) (n t p : ℕ) : Type 0 where
  pub number : t ≡ x
  pub slot : about_slot x ≡ true → FirstAt f n x p
  pub none : about_slot x ≡ false → p ≡ 0

abbrev pub TroubleOf : TaskRecord → List ℕ → ℕ → ℕ → ℕ → Type 0
TroubleOf r slots x t p = Placed x (trouble_at r.w (slot_at slots r.first)) r.count t p

abbrev pub trouble_number : {A : Type 0} → Result A Trouble → ℕ
trouble_number (Ok x) = 0
trouble_number (Err t) = number t.refusal

abbrev pub trouble_place : {A : Type 0} → Result A Trouble → ℕ
trouble_place (Ok x) = 0
trouble_place (Err t) = t.place
