-- What a caller reads out of the reply of judging. Definitions only.
--
--     Told task slots reply a           the answer a is the rules': worst count, worst offset, firm and least margin, or the refusal; reply is the
--                                       buffer before
--     alone a                           a with the record's refusal for the number of the call
--     SiteTold tasks slots reply i a    the same of record i of a site, beside the site's own number
--     ReadAt l at n a                   a has the number n and the fields of the answer record at place `at` of l
--     RoundsTold task slots reply a     as Told, of the second engine's answer
use Rattle.std.specs.Prelude.{◌≡◌, ◌↔◌, List, ℕ, ◌+◌, ◌%◌, ◌≤◌, ◌<◌, pos}
use Rattle.octets.specs.Octets.{le2, le4, signed}
use Rattle.rules.specs.Worst.{Worst, Firm}
use Rattle.rules.specs.Least.{Least}
use Rattle.records.specs.Records.{task_record, ticks_of, asked_of, part}
use Rattle.records.specs.Refusals.{judge_refusal}
use Rattle.rounds.specs.Rounds.{rounds_judge_refusal}
use Rattle.walk.specs.Walk.{place}
use Rattle.site.specs.Site.{site_refusal}
use Rattle.promises.specs.declared.read.Answer.{Answer}

-- Number 1 writes nothing, so nothing is told.
pub record Told (task slots reply : List ℕ) (a : Answer) : Type 0 where
  pub number : a.number ≡ judge_refusal task slots reply
  pub id : (a.number ≡ 1 → ⊥) → a.id ≡ (task_record task).id
  pub refusal : (a.number ≡ 1 → ⊥) → a.refusal ≡ a.number
  pub worst :
      a.number ≡ 0 → Worst (task_record task).w (ticks_of (task_record task) slots) (asked_of (task_record task)) a.drops a.offset
  pub firm : a.number ≡ 0 → (a.firm ≤ 1) × ((a.firm ≡ 1) ↔ Firm (ticks_of (task_record task) slots) (asked_of (task_record task)))
  pub least : a.number ≡ 0 → Least (task_record task).w (ticks_of (task_record task) slots) (asked_of (task_record task)) a.margin
  pub zero : 1 < a.number → (a.firm ≡ 0) × (a.drops ≡ 0) × (a.offset ≡ 0) × (a.margin ≡ pos 0)

abbrev pub alone : Answer → Answer
alone a =
    record {
      number = a.refusal;
      id = a.id;
      refusal = a.refusal;
      firm = a.firm;
      drops = a.drops;
      offset = a.offset;
      margin = a.margin;
    }

pub record SiteTold (tasks slots reply : List ℕ) (i : ℕ) (a : Answer) : Type 0 where
  pub number : a.number ≡ site_refusal tasks slots reply
  pub told : a.number ≡ 0 → Told (part tasks i) slots (place reply i) (alone a)

pub record ReadAt (l : List ℕ) (at n : ℕ) (a : Answer) : Type 0 where
  pub number : a.number ≡ n
  pub id : a.id ≡ le4 l at
  pub refusal : a.refusal ≡ le2 l (at + 4)
  pub firm : a.firm ≡ le2 l (at + 6)
  pub drops : a.drops ≡ le4 l (at + 8)
  pub offset : a.offset ≡ le4 l (at + 12)
  pub margin : a.margin ≡ signed (le4 l (at + 16) % 4294967296)

pub record RoundsTold (task slots reply : List ℕ) (a : Answer) : Type 0 where
  pub number : a.number ≡ rounds_judge_refusal task slots reply
  pub id : (a.number ≡ 1 → ⊥) → a.id ≡ (task_record task).id
  pub refusal : (a.number ≡ 1 → ⊥) → a.refusal ≡ a.number
  pub worst :
      a.number ≡ 0 → Worst (task_record task).w (ticks_of (task_record task) slots) (asked_of (task_record task)) a.drops a.offset
  pub firm : a.number ≡ 0 → (a.firm ≤ 1) × ((a.firm ≡ 1) ↔ Firm (ticks_of (task_record task) slots) (asked_of (task_record task)))
  pub least : a.number ≡ 0 → Least (task_record task).w (ticks_of (task_record task) slots) (asked_of (task_record task)) a.margin
  pub zero : 1 < a.number → (a.firm ≡ 0) × (a.drops ≡ 0) × (a.offset ≡ 0) × (a.margin ≡ pos 0)
