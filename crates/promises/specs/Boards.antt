-- docs/RULES.md, "One table for the board": what other owners' slots mean for a task. Definitions only: the last six names are statements,
-- shown in proofs/Boards.antt.
--
--     asked_bytes             the bytes of a task record before first and count
--     own_slots l first id n  the slots of id among n slot records from `first` on, in their order
--     slots_of r l            the slots that a task record's owner has on its board
--     Twins t l t' l'         two task records on their boards: both tables are accepted, and the records differ in first and count only
--     SameTicks t l t' l'     both have the same usable ticks
--     SameSlots t l t' l'     both have the same slots
--     SameAnswers t l t' l'   every call answers both alike, and all that the rules read of them is equal
--     SameRounds t l t' l'    the second engine's calls answer both alike
--     OwnTicks                a task's usable ticks are those of its own slots, as if the table had no others
--     TicksTell               the same usable ticks give the same answers
--     OthersAreSilent         the same slots give the same answers, however the other owners' slots differ
--     SitesAgree              the same of a record in each of two sites
--     VerdictsAgree           the same of the question just yes or no
--     RoundsAreSilent         the same of the second engine
--
-- The wheel stands in the task record, so twins have the same one.
use Rattle.std.specs.Prelude.{◌≡◌, Bool, cond, List, [], ◌∷◌, ◌++◌, ℕ, zero, suc, ◌<◌, take}
use Rattle.rules.specs.Usable.{Slot, usable, table_of}
use Rattle.records.specs.Records.{task_record, slot_at, slot_of, owned, ticks_of, asked_of, whole, part}
use Rattle.records.specs.Refusals.{point_refusal, which_refusal}
use Rattle.records.specs.declared.TaskRecord.{TaskRecord}
use Rattle.judge.specs.Judge.{Judged}
use Rattle.judge.specs.Points.{supplied_at, margin_at, counted_at}
use Rattle.quick.specs.Quick.{Quick}
use Rattle.rounds.specs.Rounds.{rounds_point_refusal, rounds_counted_at, RoundsJudged}
use Rattle.walk.specs.Walk.{place}
use Rattle.site.specs.Site.{Sited}

abbrev pub asked_bytes : ℕ
asked_bytes = 28

unfoldable pub own_slots : List ℕ → ℕ → ℕ → ℕ → List Slot
own_slots l first id zero = []
own_slots l first id (suc n) = own_slots l first id n ++ cond (owned l first id n) (slot_of (slot_at l first n) ∷ []) []

abbrev pub slots_of : TaskRecord → List ℕ → List Slot
slots_of r l = own_slots l r.first r.id r.count

pub record Twins (task slots task' slots' : List ℕ) : Type 0 where
  pub here : which_refusal task slots ≡ 0
  pub there : which_refusal task' slots' ≡ 0
  pub asked : take asked_bytes task ≡ take asked_bytes task'

abbrev pub SameTicks : List ℕ → List ℕ → List ℕ → List ℕ → Type 0
SameTicks task slots task' slots' = (x : ℕ) → ticks_of (task_record task) slots x ≡ ticks_of (task_record task') slots' x

abbrev pub SameSlots : List ℕ → List ℕ → List ℕ → List ℕ → Type 0
SameSlots task slots task' slots' = slots_of (task_record task) slots ≡ slots_of (task_record task') slots'

-- Whatever is said of a wheel, its usable ticks and a task, a later verdict too, holds of both: the last three are equal.
pub record SameAnswers (task slots task' slots' : List ℕ) : Type 0 where
  pub judged :
      (reply : List ℕ) (n n' : ℕ) (after after' : List ℕ)
      → Judged task slots reply n after → Judged task' slots' reply n' after' → (n ≡ n') × (after ≡ after')
  pub refused : (x : ℕ) → point_refusal task slots x ≡ point_refusal task' slots' x
  pub supplied : (x : ℕ) → supplied_at task slots x ≡ supplied_at task' slots' x
  pub measured : (x : ℕ) → margin_at task slots x ≡ margin_at task' slots' x
  pub counted : (x : ℕ) → counted_at task slots x ≡ counted_at task' slots' x
  pub wheel : (task_record task).w ≡ (task_record task').w
  pub ticks : ticks_of (task_record task) slots ≡ ticks_of (task_record task') slots'
  pub asked : asked_of (task_record task) ≡ asked_of (task_record task')

pub record SameRounds (task slots task' slots' : List ℕ) : Type 0 where
  pub judged :
      (reply : List ℕ) (n n' : ℕ) (after after' : List ℕ)
      → RoundsJudged task slots reply n after → RoundsJudged task' slots' reply n' after' → (n ≡ n') × (after ≡ after')
  pub refused : (x : ℕ) → rounds_point_refusal task slots x ≡ rounds_point_refusal task' slots' x
  pub counted : (x : ℕ) → rounds_counted_at task slots x ≡ rounds_counted_at task' slots' x

abbrev pub OwnTicks : Type 0
OwnTicks = (r : TaskRecord) (l : List ℕ) (x : ℕ) → ticks_of r l x ≡ usable r.w (table_of (slots_of r l)) x

abbrev pub TicksTell : Type 0
TicksTell =
    (task slots task' slots' : List ℕ)
    → Twins task slots task' slots' → SameTicks task slots task' slots' → SameAnswers task slots task' slots'

abbrev pub OthersAreSilent : Type 0
OthersAreSilent =
    (task slots task' slots' : List ℕ)
    → Twins task slots task' slots' → SameSlots task slots task' slots' → SameAnswers task slots task' slots'

abbrev pub SitesAgree : Type 0
SitesAgree =
    (tasks slots reply after tasks' slots' reply' after' : List ℕ) (i j : ℕ)
    → Sited tasks slots reply 0 after → Sited tasks' slots' reply' 0 after' → i < whole tasks → j < whole tasks'
    → Twins (part tasks i) slots (part tasks' j) slots' → SameSlots (part tasks i) slots (part tasks' j) slots'
    → place reply i ≡ place reply' j → place after i ≡ place after' j

abbrev pub VerdictsAgree : Type 0
VerdictsAgree =
    (task slots task' slots' : List ℕ) (n n' : ℕ) (b b' : Bool)
    → Twins task slots task' slots' → SameSlots task slots task' slots' → Quick task slots n b → Quick task' slots' n' b'
    → (n ≡ n') × (b ≡ b')

abbrev pub RoundsAreSilent : Type 0
RoundsAreSilent =
    (task slots task' slots' : List ℕ)
    → Twins task slots task' slots' → SameSlots task slots task' slots' → SameRounds task slots task' slots'
