-- What is read out of a reply is what judging says. Assumes nothing.
use mathlib.Core.Path.{◌≡◌, refl, sym, ap, ◌∙◌}
use mathlib.Core.Logic.{◌↔◌}
use mathlib.Core.Bool.{Bool, true, false}
use mathlib.Core.List.{List}
use Prim.Native.Nat.{ℕ, zero, suc, ◌+◌, ◌*◌, ◌%◌, ◌≤◌, ◌<◌}
use native.Mathlib.Decide.{ℕ_discrete}
use native.Mathlib.Nat.{add-zero}
use native.Mathlib.Omega.{arith}
use borrow.Author.Tests.{le-ltb}
use lib.ListN.{length, get_or}
use lib.IntN.{ℤ, pos}
use mir.Syntax.{w8, w32}
use mir.Val.{Fits, SFits}
use Rattle.rules.specs.Sums.{bit}
use Rattle.rules.specs.Worst.{Worst, Firm}
use Rattle.rules.specs.Least.{Least}
use Rattle.octets.specs.Octets.{le2, le4, twos, signed, over}
use Rattle.octets.proofs.Signs.{twos_small, signed-twos}
use Rattle.limits.specs.Refusal.{◌otherwise◌}
use Rattle.limits.proofs.Refusals.{when_false, otherwise-none, otherwise-some}
use Rattle.records.specs.Records.{task_bytes, slot_bytes, reply_bytes, task_record, ticks_of, asked_of, answer_bytes, whole, part}
use Rattle.records.specs.Refusals.{sizes, room, body_refusal, judge_refusal, job_of}
use Rattle.records.specs.declared.TaskRecord.{TaskRecord}
use Rattle.records.proofs.Parts.{sizes-one, sizes-good}
use Rattle.records.proofs.Accepts.{body-high}
use Rattle.judge.specs.Judge.{Judged, Answered}
use Rattle.rounds.specs.Rounds.{rounds_body, rounds_judge_refusal, RoundsJudged}
use Rattle.rounds.specs.Long.{Ready}
use Rattle.rounds.proofs.Bodies.{ready-job, rounds-high}
use Rattle.walk.specs.Walk.{place}
use Rattle.walk.proofs.Places.{part-long, part-le2, part-le4}
use Rattle.site.specs.Site.{Sited}
use Rattle.site.proofs.Sites.{roomy-none}
use Rattle.promises.specs.Answers.{Told, RoundsTold, alone, SiteTold, ReadAt}
use Rattle.promises.specs.declared.read.Answer.{Answer}
use Rattle.promises.proofs.Settled.{Replied, judge-replied, rounds-replied}
use Rattle.promises.proofs.Bounds.{back2, back4, worst-small, least_fits, body-low, rounds-low}
use Rattle.promises.proofs.Rounds.{ready-first}

-- ---- the fields of an answer record at the start of a buffer

record Fields (i n f c o g : ℕ) (after : List ℕ) : Type 0 where
  id : le4 after 0 ≡ i
  refusal : le2 after 4 ≡ n
  firm : le2 after 6 ≡ f
  drops : le4 after 8 ≡ c
  offset : le4 after 12 ≡ o
  margin : le4 after 16 ≡ g

fields :
    (i n f c o : ℕ) (g : ℤ) (b : List ℕ) → i < 4294967296 → n < 65536 → f < 65536 → c < 4294967296 → o < 4294967296 → SFits w32 g
    → Fields i n f c o (twos g) (over (answer_bytes i n f c o g) b)
unfolding over
fields i n f c o g b li ln lf lc lo lg =
    record {
      id = back4 i li;
      refusal = back2 n ln;
      firm = back2 f lf;
      drops = back4 c lc;
      offset = back4 o lo;
      margin = back4 (twos g) (twos_small g lg);
    }

one_bit : (b : Bool) {A : Type 0} → (b ≡ true) ↔ A → (bit b ≤ 1) × ((bit b ≡ 1) ↔ A)
unfolding bit
one_bit true p = (omega arith, (λ _. p.0 refl, λ _. refl))
one_bit false {A} p =
    let never : A → ⊥ = λ a. let z : false ≡ true = p.1 a in let n : ◌≡◌ {A = ℕ} 0 1 = cc in omega arith in
    (omega arith, (λ z. absurd (omega arith), λ a. absurd (never a)))

-- ---- what judging wrote, in numbers

record Written (task slots : List ℕ) (n : ℕ) (after : List ℕ) : Type 0 where
  firm : ℕ
  drops : ℕ
  offset : ℕ
  margin : ℤ
  fields : Fields (task_record task).id n firm drops offset (twos margin) after
  fits : SFits w32 margin
  worst : n ≡ 0 → Worst (task_record task).w (ticks_of (task_record task) slots) (asked_of (task_record task)) drops offset
  said : n ≡ 0 → (firm ≤ 1) × ((firm ≡ 1) ↔ Firm (ticks_of (task_record task) slots) (asked_of (task_record task)))
  least : n ≡ 0 → Least (task_record task).w (ticks_of (task_record task) slots) (asked_of (task_record task)) margin
  none : 1 < n → (firm ≡ 0) × (drops ≡ 0) × (offset ≡ 0) × (margin ≡ pos 0)

-- What either engine's body gives: 0 for a task within its bounds, or a refusal that fits its field and isn't 1 or 2.
record Numbered (r : TaskRecord) (l : List ℕ) (n : ℕ) : Type 0 where
  ready : n ≡ 0 → Ready l (job_of r)
  high : (n ≡ 0 → ⊥) → 2 < n
  low : n ≤ 19

module _ (r : TaskRecord) (l : List ℕ) where
  first-numbered : Numbered r l (body_refusal r l)
  first-numbered = record { ready = ready-first r l; high = body-high r l _ refl; low = body-low r l }

  rounds-numbered : Numbered r l (rounds_body r l)
  rounds-numbered = record { ready = ready-job r l; high = rounds-high r l _ refl; low = rounds-low r l }

-- With room for an answer, what the sizes don't refuse is refused by the record alone.
from-body :
    (task slots reply : List ℕ) (body : ℕ) → reply_bytes ≤ length reply → ((sizes task slots otherwise room reply otherwise body) ≡ 1 → ⊥)
    → (sizes task slots otherwise room reply otherwise body) ≡ body
unfolding room
from-body task slots reply body long other = go (ℕ_discrete (sizes task slots) 0)
  where
    go : Dec (sizes task slots ≡ 0) → (sizes task slots otherwise room reply otherwise body) ≡ body
    go (yes good) = otherwise-none _ _ good ∙ otherwise-none _ _ (when_false 2 _ (le-ltb _ _ long))
    go (no bad) = absurd (other (otherwise-some _ _ bad ∙ sizes-one task slots bad))

pub small : (l : List ℕ) (at : ℕ) → ((i : ℕ) → Fits w8 (get_or l i 0)) → le4 l at < 4294967296
small l at byte = omega (arith, byte at, byte (at + 1), byte (at + 2), byte (at + 3))

-- What is told of an answer by either engine, but for the number itself.
record Heard (task slots : List ℕ) (a : Answer) : Type 0 where
  id : (a.number ≡ 1 → ⊥) → a.id ≡ (task_record task).id
  refusal : (a.number ≡ 1 → ⊥) → a.refusal ≡ a.number
  worst : a.number ≡ 0 → Worst (task_record task).w (ticks_of (task_record task) slots) (asked_of (task_record task)) a.drops a.offset
  firm : a.number ≡ 0 → (a.firm ≤ 1) × ((a.firm ≡ 1) ↔ Firm (ticks_of (task_record task) slots) (asked_of (task_record task)))
  least : a.number ≡ 0 → Least (task_record task).w (ticks_of (task_record task) slots) (asked_of (task_record task)) a.margin
  zero : 1 < a.number → (a.firm ≡ 0) × (a.drops ≡ 0) × (a.offset ≡ 0) × (a.margin ≡ pos 0)

module _ (task slots reply after : List ℕ) (known : le4 task 0 < 4294967296) where
  wrote-answer : Ready slots (job_of (task_record task)) → Answered task slots reply after → Written task slots 0 after
  wrote-answer ready a =
      let sizes = worst-small (task_record task) slots a.drops a.offset ready a.worst in
      let fits = least_fits (task_record task) slots a.margin ready a.least in
      let firm = one_bit a.firm a.said in
      record {
        firm = bit a.firm;
        drops = a.drops;
        offset = a.offset;
        margin = a.margin;
        fields =
            rw a.bytes
            (fields _ _ _ _ _ _ reply known (omega arith) (omega (arith, firm.0)) (omega (arith, sizes.0)) (omega (arith, sizes.1)) fits);
        fits = fits;
        worst = λ _. a.worst;
        said = λ _. firm;
        least = λ _. a.least;
        none = λ less. absurd (omega arith);
      }

  wrote-refusal :
      (n : ℕ) → 2 < n → n < 65536 → after ≡ over (answer_bytes (task_record task).id n 0 0 0 (pos 0)) reply → Written task slots n after
  wrote-refusal n more most bytes =
      let none : SFits w32 (pos 0) = record { sfits = omega arith } in
      record {
        firm = 0;
        drops = 0;
        offset = 0;
        margin = pos 0;
        fields = rw bytes (fields _ n 0 0 0 (pos 0) reply known (omega arith) (omega arith) (omega arith) (omega arith) none);
        fits = none;
        worst = λ z. absurd (omega arith);
        said = λ z. absurd (omega arith);
        least = λ z. absurd (omega arith);
        none = λ _. (refl, refl, refl, refl);
      }

  wrote : (n : ℕ) → Numbered (task_record task) slots n → Replied task slots reply n after → Written task slots n after
  wrote zero body j = wrote-answer (body.ready refl) (j.answered refl)
  wrote (suc n) body j =
      let more : 2 < suc n = body.high (λ z. omega arith) in
      wrote-refusal (suc n) more (omega (arith, body.low)) (j.refused more)

  heard :
      {n body : ℕ} (a : Answer) → reply_bytes ≤ length reply → a.number ≡ (sizes task slots otherwise room reply otherwise body)
      → Numbered (task_record task) slots body → Replied task slots reply a.number after → ReadAt after 0 n a → Heard task slots a
  heard {body = body} a long number known-body j at =
      record {
        id = λ other. at.id ∙ (read other).fields.id;
        refusal = λ other. at.refusal ∙ (read other).fields.refusal;
        worst = λ z. let w = read (λ one. omega arith) in rw (at.drops ∙ w.fields.drops, at.offset ∙ w.fields.offset) (w.worst z);
        firm = λ z. let w = read (λ one. omega arith) in rw (at.firm ∙ w.fields.firm) (w.said z);
        least = λ z. let w = read (λ one. omega arith) in rw (signed_back w) (w.least z);
        zero = λ more.
            let w = read (λ one. omega arith) in
            rw (at.firm ∙ w.fields.firm, at.drops ∙ w.fields.drops, at.offset ∙ w.fields.offset, signed_back w) (w.none more);
      }
    where
      signed_back : (w : Written task slots a.number after) → a.margin ≡ w.margin
      signed_back w =
          let small = twos_small w.margin w.fits in
          let same : le4 after 16 % 4294967296 ≡ twos w.margin = omega (arith, w.fields.margin) in
          at.margin ∙ ap signed same ∙ signed-twos w.margin w.fits

      read : (a.number ≡ 1 → ⊥) → Written task slots a.number after
      read other =
          let same : a.number ≡ body = number ∙ from-body task slots reply body long (λ one. other (number ∙ one)) in
          wrote a.number (rw same known-body) j

  pub told :
      {n : ℕ} (a : Answer) → reply_bytes ≤ length reply → Judged task slots reply a.number after → ReadAt after 0 n a
      → Told task slots reply a
  unfolding judge_refusal
  told a long j at =
      let h = heard a long j.number (first-numbered (task_record task) slots) (judge-replied j) at in
      record {
        number = j.number;
        id = h.id;
        refusal = h.refusal;
        worst = h.worst;
        firm = h.firm;
        least = h.least;
        zero = h.zero;
      }

  pub rounds-told :
      {n : ℕ} (a : Answer) → reply_bytes ≤ length reply → RoundsJudged task slots reply a.number after → ReadAt after 0 n a
      → RoundsTold task slots reply a
  unfolding rounds_judge_refusal
  rounds-told a long j at =
      let h = heard a long j.number (rounds-numbered (task_record task) slots) (rounds-replied j) at in
      record {
        number = j.number;
        id = h.id;
        refusal = h.refusal;
        worst = h.worst;
        firm = h.firm;
        least = h.least;
        zero = h.zero;
      }

-- ---- what a site wrote, place by place

module _ (tasks slots reply after : List ℕ) (i : ℕ) (less : i < whole tasks) (room : reply_bytes * whole tasks ≤ length reply) where
  read2 : (k : ℕ) → k + 2 ≤ reply_bytes → le2 after (reply_bytes * i + k) ≡ le2 (place after i) k
  unfolding place
  read2 k fits = sym (part-le2 (reply_bytes * i) reply_bytes k after fits)

  read4 : (k : ℕ) → k + 4 ≤ reply_bytes → le4 after (reply_bytes * i + k) ≡ le4 (place after i) k
  unfolding place
  read4 k fits = sym (part-le4 (reply_bytes * i) reply_bytes k after fits)

  roomy-place : reply_bytes ≤ length (place reply i)
  unfolding place
  roomy-place = omega (arith, part-long (reply_bytes * i) reply_bytes reply (omega arith))

  small-id : ((j : ℕ) → Fits w8 (get_or tasks j 0)) → le4 (part tasks i) 0 < 4294967296
  unfolding part
  small-id byte = rw (part-le4 (task_bytes * i) task_bytes 0 tasks (omega arith)) (small tasks (task_bytes * i + 0) byte)

  -- A whole record on a whole slot buffer is refused by its numbers alone.
  by-numbers :
      length slots % slot_bytes ≡ 0
      → judge_refusal (part tasks i) slots (place reply i) ≡ body_refusal (task_record (part tasks i)) slots
  unfolding part judge_refusal room
  by-numbers table =
      otherwise-none _ _ (sym (sizes-good (part tasks i) slots (part-long (task_bytes * i) task_bytes tasks (omega arith)) table))
      ∙ otherwise-none _ _ (when_false 2 _ (le-ltb _ _ roomy-place))

  -- What was read at a place of the reply is what stands in that place alone.
  read-alone : {n : ℕ} (a : Answer) → ReadAt after (reply_bytes * i) n a → ReadAt (place after i) 0 a.refusal (alone a)
  read-alone a at =
      record {
        number = refl;
        id = at.id ∙ ap (le4 after) (sym (add-zero (reply_bytes * i))) ∙ read4 0 (omega arith);
        refusal = at.refusal ∙ read2 4 (omega arith);
        firm = at.firm ∙ read2 6 (omega arith);
        drops = at.drops ∙ read4 8 (omega arith);
        offset = at.offset ∙ read4 12 (omega arith);
        margin = at.margin ∙ ap (λ n. signed (n % 4294967296)) (read4 16 (omega arith));
      }

  pub site-told :
      {n : ℕ} (a : Answer) → ((j : ℕ) → Fits w8 (get_or tasks j 0)) → Sited tasks slots reply n after → ReadAt after (reply_bytes * i) n a
      → SiteTold tasks slots reply i a
  site-told {n} a byte s at =
      record {
        number = at.number ∙ s.number;
        told = λ none.
            let zero : n ≡ 0 = sym at.number ∙ none in
            let table = (roomy-none tasks slots reply (sym s.number ∙ zero)).table in
            let judged = s.each zero i less in
            let written =
            wrote (part tasks i) slots (place reply i) (place after i) (small-id byte) _
            (rw (by-numbers table) (first-numbered (task_record (part tasks i)) slots)) (judge-replied judged) in
            let same : a.refusal ≡ judge_refusal (part tasks i) slots (place reply i) =
            at.refusal ∙ read2 4 (omega arith) ∙ written.fields.refusal in
            told (part tasks i) slots (place reply i) (place after i) (small-id byte) _ roomy-place (rw same judged) (read-alone a at);
      }
