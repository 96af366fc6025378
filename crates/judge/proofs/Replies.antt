-- What comes of a task record, and the reply that docs/RULES.md names for it. Assumes nothing.
use mathlib.Core.Path.{◌≡◌, refl, sym, ◌∙◌}
use mathlib.Core.Logic.{◌⊎◌, ⊎_elim}
use mathlib.Core.List.{List}
use Prim.Native.Nat.{ℕ, ◌≤◌, ◌<◌}
use native.Mathlib.Omega.{arith}
use lib.IntN.{pos}
use lib.ListN.{length}
use native.Mathlib.Nat.{zero-lt-suc}
use borrow.Author.Tests.{le-ltb, ltb-false}
use Rattle.std.specs.Prelude.{Result, Ok, Err}
use Rattle.rules.specs.Worst.{firm_test}
use Rattle.octets.specs.Octets.{over}
use Rattle.limits.specs.Refusal.{number, refusal, ◌otherwise◌}
use Rattle.limits.specs.Limits.{asked}
use Rattle.limits.specs.declared.Refusal.{Refusal}
use Rattle.limits.proofs.Refusals.{at_next, when_false, when-all, when-none}
use Rattle.limits.proofs.Checks.{number-some, err_first, err_next}
use Rattle.records.specs.Records.{reply_bytes, task_record, board_of, ticks_of, answer_bytes}
use Rattle.records.specs.Answers.{answer_of}
use Rattle.records.specs.Refusals.{sizes, room, body_refusal, judge_refusal, job_of}
use Rattle.records.specs.declared.TaskRecord.{TaskRecord}
use Rattle.records.specs.declared.Job.{Job}
use Rattle.records.specs.declared.answer.Found.{Found}
use Rattle.records.proofs.Parts.{sizes-one}
use Rattle.records.proofs.Accepts.{body-high}
use Rattle.room.specs.declared.Peak.{Peak}
use Rattle.jobs.specs.Lent.{Peaked}
use Rattle.judge.specs.Judge.{Outcome, Answered, Judged}
use Rattle.judge.proofs.Answered.{answered-as}

-- ---- what comes of a task record

-- What is found for the accepted job is what comes of its record.
pub outcome-found :
    (r : TaskRecord) (l : List ℕ) (n : ℕ) (j : Job) (p : Peak) (f : Found) → (n ≡ 0) × (j ≡ job_of r) → Peaked l j p
    → f ≡ record { firm = firm_test (asked j.task) p.drops; drops = p.drops; offset = p.offset; margin = p.margin }
    → Outcome r l n (Ok f)
unfolding ticks_of board_of
outcome-found r l n j p f (none, same) peaked said =
    let here : Peaked l (job_of r) p = rw same at peaked in
    rw (said, same) (none, refl, here.0, here.1)

outcome-number : (r : TaskRecord) (l : List ℕ) (n : ℕ) (x : Result Found Refusal) → Outcome r l n x → refusal x ≡ n
outcome-number r l n (Ok f) o = sym o.0
outcome-number r l n (Err bad) o = o

-- ---- the reply

-- 0 and the numbers above 2 are neither 1 nor 2.
pub not_low : (n : ℕ) → (n ≡ 1) ⊎ (n ≡ 2) → (0 < n → 2 < n) → ⊥
not_low n low high = ⊎_elim (λ one. let h = high (omega arith) in omega arith) (λ two. let h = high (omega arith) in omega arith) low

-- What a call that gave number n has left: numbers 1 and 2 write nothing, any other goes into the record, and 0 has an answer.
pub record Replied (task slots reply : List ℕ) (n : ℕ) (after : List ℕ) : Type 0 where
  pub silent : (n ≡ 1) ⊎ (n ≡ 2) → after ≡ reply
  pub refused : 2 < n → after ≡ over (answer_bytes (task_record task).id n 0 0 0 (pos 0)) reply
  pub answered : n ≡ 0 → Answered task slots reply after

pub room-low : (reply : List ℕ) (bad : Refusal) → number bad ≡ room reply → number bad ≤ 2
unfolding room
room-low reply bad e = rw e (when-all (λ x. x ≤ 2) 2 _ (omega arith) (omega arith))

pub room-long : (reply : List ℕ) → room reply ≡ 0 → reply_bytes ≤ length reply
unfolding room
room-long reply none = ltb-false _ _ (when-none 2 _ (zero-lt-suc 1) none)

pub room-none : (reply : List ℕ) → reply_bytes ≤ length reply → room reply ≡ 0
unfolding room
room-none reply long = when_false 2 _ (le-ltb _ _ long)

module _ (task slots reply : List ℕ) where
  replied-silent : (bad : Refusal) → number bad ≤ 2 → Replied task slots reply (number bad) reply
  replied-silent bad low =
      record {
        silent = λ _. refl;
        refused = λ high. absurd (omega arith);
        answered = λ none. absurd (number-some bad none);
      }

  replied : (n : ℕ) (x : Result Found Refusal) (after : List ℕ)
      → Outcome (task_record task) slots n x → ((n ≡ 0 → ⊥) → 2 < n)
      → after ≡ over (answer_of (task_record task).id x) reply → Replied task slots reply (refusal x) after
  unfolding ticks_of board_of
  replied n (Ok f) after o high written =
      record {
        silent = λ low. absurd (not_low 0 low (λ some. absurd (omega arith)));
        refused = λ low. absurd (omega arith);
        answered = λ _.
            answered-as task slots reply (task_record task) (job_of (task_record task)) f.drops f.offset f.margin after refl refl (o.2, o.3)
            (rw o.1 at written);
      }
  replied n (Err bad) after o high written =
      let some : 2 < number bad = rw o (high (λ z. number-some bad (o ∙ z))) in
      record {
        silent = λ low. absurd (not_low _ low (λ _. some));
        refused = λ _. written;
        answered = λ none. absurd (number-some bad none);
      }

  -- ---- the ways out of judging, by either engine: what it refuses of a body comes after the sizes and the reply's

  -- What a call has given and left.
  abbrev pub Called : ℕ → ℕ → List ℕ → Type 0
  Called body n after = (n ≡ (sizes task slots otherwise room reply otherwise body)) × Replied task slots reply n after

  pub called-sizes : (body : ℕ) (bad : Refusal) → number bad ≡ sizes task slots → Called body (number bad) reply
  called-sizes body bad e =
      let one : number bad ≡ 1 = e ∙ sizes-one task slots (λ z. number-some bad (e ∙ z)) in
      (err_first bad _ _ e, replied-silent bad (omega arith))

  pub called-room : (body : ℕ) → sizes task slots ≡ 0 → (bad : Refusal) → number bad ≡ room reply → Called body (number bad) reply
  called-room body good bad e = (err_next bad _ _ good (err_first bad _ _ e), replied-silent bad (room-low reply bad e))

  -- What is written for what comes of a record, and the number that is passed on.
  pub called-as : (body : TaskRecord → ℕ) (m : ℕ) (r : TaskRecord) (x : Result Found Refusal) (after : List ℕ) → sizes task slots ≡ 0
      → room reply ≡ 0 → r ≡ task_record task → Outcome r slots (body r) x → ((body r ≡ 0 → ⊥) → 2 < body r) → m ≡ refusal x
      → after ≡ over (answer_of r.id x) reply → Called (body (task_record task)) m after
  called-as body m r x after good long e o high passed written =
      let here : Outcome (task_record task) slots (body (task_record task)) x = rw e at o in
      let left : Replied task slots reply m after = rw passed (replied _ x after here (rw e at high) (rw e at written)) in
      (at_next _ _ _ good (at_next _ _ _ long (passed ∙ outcome-number _ slots _ x here)), left)

  pub judged : {n : ℕ} {after : List ℕ} → Called (body_refusal (task_record task) slots) n after → Judged task slots reply n after
  unfolding judge_refusal
  judged (number, left) = record { number = number; silent = left.silent; refused = left.refused; answered = left.answered }

  pub judged-as : (good : sizes task slots ≡ 0) (m : ℕ) (r : TaskRecord) (x : Result Found Refusal) (after : List ℕ) → room reply ≡ 0
      → r ≡ task_record task → Outcome r slots (body_refusal r slots) x → m ≡ refusal x → after ≡ over (answer_of r.id x) reply
      → Judged task slots reply m after
  judged-as good m r x after long e o said written =
      judged (called-as (λ y. body_refusal y slots) m r x after good long e o (body-high r slots _ refl) said written)
