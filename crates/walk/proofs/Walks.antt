-- The walk along the records: what one turn adds, and what it leaves as it was. Assumes nothing.
use mathlib.Core.Path.{◌≡◌, refl, sym, ap, ◌∙◌}
use mathlib.Core.List.{List, ◌++◌}
use Prim.Native.Nat.{ℕ, ◌+◌, ◌-◌, ◌*◌, ◌≤◌, ◌<◌}
use native.Mathlib.Nat.{le_antisymm}
use native.Mathlib.Omega.{arith}
use borrow.Author.Count.{below_more}
use lib.ListN.{length, take, drop, length-drop}
use lib.Seq.{take_at, drop_at, drop-drop}
use Rattle.octets.specs.Octets.{le4}
use Rattle.limits.specs.Limits.{most_ticks}
use Rattle.records.specs.Records.{task_bytes, reply_bytes, task_record, whole, part}
use Rattle.records.specs.Refusals.{sizes, job_of}
use Rattle.records.specs.declared.TaskRecord.{TaskRecord}
use Rattle.records.specs.declared.Job.{Job}
use Rattle.records.proofs.Parts.{sizes-good}
use Rattle.judge.specs.Judge.{Judged}
use Rattle.walk.specs.Walk.{place, JudgedAt, Roomy, Fitting, Placed, Walked}
use Rattle.walk.proofs.Places.{part-long, part-before, put, put-long, put-there, put-before, put-behind}

-- ---- the largest wheel

-- The first i records need no more than n ticks, and the rest are still to be looked at.
pub record Seen (tasks : List ℕ) (i n : ℕ) (rest : List ℕ) (size : ℕ) : Type 0 where
  pub left : rest ≡ drop (task_bytes * i) tasks
  pub long : size ≡ task_bytes
  pub most : n ≤ most_ticks
  pub each : (j : ℕ) → j < i → (task_record (part tasks j)).w ≤ most_ticks → (task_record (part tasks j)).w ≤ n

pub seen_none : (tasks rest : List ℕ) (size : ℕ) → rest ≡ tasks → size ≡ task_bytes → Seen tasks 0 0 rest size
seen_none tasks rest size e long = record { left = e; long = long; most = omega arith; each = λ j less. absurd (omega arith) }

-- The next record comes off the rest.
pub seen_more :
    (tasks : List ℕ) (i n i' r w : ℕ) (rest rest' task : List ℕ) (size size' : ℕ) → Seen tasks i n rest size → i' ≡ i + 1 → size' ≡ size
    → (rest ≡ task ++ rest') × (length task ≡ size) → w ≡ le4 task 4
    → (n ≤ r) × (r ≤ most_ticks) × (w ≤ most_ticks → w ≤ r) → Seen tasks i' r rest' size'
unfolding part
seen_more tasks i n i' r w rest rest' task size size' s next same (cut, whole) read larger =
    let long : length task ≡ task_bytes = whole ∙ s.long in
    let here : drop (task_bytes * i) tasks ≡ task ++ rest' = sym s.left ∙ cut in
    let record_i : take task_bytes (drop (task_bytes * i) tasks) ≡ task = ap (take task_bytes) here ∙ take_at task rest' task_bytes long in
    let wheel : w ≡ (task_record (part tasks i)).w = read ∙ ap (λ t. le4 t 4) (sym record_i) in
    let on : task_bytes * (i + 1) ≡ task_bytes * i + task_bytes = omega arith in
    rw next (record {
      left =
          sym (drop_at task rest' task_bytes long) ∙ ap (drop task_bytes) (sym here)
          ∙ drop-drop task_bytes (task_bytes * i) tasks ∙ ap (λ m. drop m tasks) (sym on);
      long = same ∙ s.long;
      most = larger.1;
      each =
          below_more _ i
          (λ j l fits. let x = s.each j l fits in omega arith)
          (λ fits. rw wheel at (larger.2 (rw wheel fits)));
    })

pub seen_all :
    (tasks : List ℕ) (i n : ℕ) (rest : List ℕ) (size : ℕ) → Seen tasks i n rest size → length rest < size
    → Fitting tasks n × (n ≤ most_ticks)
unfolding Fitting
seen_all tasks i n rest size s short =
    let last : length (drop (task_bytes * i) tasks) < task_bytes = rw s.left at (rw s.long at short) in
    (λ j less. s.each j (omega (arith, length-drop (task_bytes * i) tasks)), s.most)

pub fitting-more : (tasks : List ℕ) (n m : ℕ) → Fitting tasks n → n ≤ m → Fitting tasks m
unfolding Fitting
fitting-more tasks n m fitting more = λ i less fits. let x = fitting i less fits in omega arith

-- The wheel of an accepted job is its record's.
pub fits_job :
    (r : TaskRecord) (j : Job) (n : ℕ) → j ≡ job_of r → j.wheel.w ≤ most_ticks → (r.w ≤ most_ticks → r.w ≤ n) → j.wheel.w ≤ n
fits_job r j n same most fits = rw same (fits (rw same at most))

pub fits_one :
    (tasks : List ℕ) (i n : ℕ) → i < whole tasks → Fitting tasks n → (task_record (part tasks i)).w ≤ most_ticks
    → (task_record (part tasks i)).w ≤ n
unfolding Fitting
fits_one tasks i n less fitting = fitting i less

-- ---- one record

placed :
    (tasks slots reply answer : List ℕ) (i n : ℕ) → i < whole tasks → reply_bytes * whole tasks ≤ length reply
    → length answer ≡ reply_bytes → Judged (part tasks i) slots (place reply i) n answer
    → Placed tasks slots reply i (put (reply_bytes * i) reply_bytes reply answer)
unfolding place
placed tasks slots reply answer i n less room long judged =
    let at = reply_bytes * i in
    let fits : at + reply_bytes ≤ length reply = omega arith in
    let next : reply_bytes * (i + 1) ≡ at + reply_bytes = omega arith in
    record {
      long = put-long at reply_bytes reply answer fits long;
      judged = rw (put-there at reply_bytes reply answer fits long, ← judged.number) judged;
      before = put-before at reply_bytes reply answer fits long;
      behind = rw next (put-behind at reply_bytes reply answer fits long);
    }

-- The same of parts that are cut from their first byte to the one behind their last.
abbrev size : ℕ → ℕ → ℕ
size k i = k * i + k - k * i

pub ready :
    (tasks slots reply : List ℕ) (i : ℕ) → i < whole tasks → Roomy tasks slots reply
    → (sizes (take (size task_bytes i) (drop (task_bytes * i) tasks)) slots ≡ 0)
    × (reply_bytes ≤ length (take (size reply_bytes i) (drop (reply_bytes * i) reply)))
ready tasks slots reply i less roomy =
    let e : size task_bytes i ≡ task_bytes = omega arith in
    let f : size reply_bytes i ≡ reply_bytes = omega arith in (
      rw e (sym (sizes-good _ slots (part-long (task_bytes * i) task_bytes tasks (omega arith)) roomy.table)),
      rw f (omega (arith, roomy.room, part-long (reply_bytes * i) reply_bytes reply (omega (arith, roomy.room)))),
    )

pub placed_one :
    (tasks slots reply answer : List ℕ) (i n : ℕ) → i < whole tasks → reply_bytes * whole tasks ≤ length reply
    → Judged (take (size task_bytes i) (drop (task_bytes * i) tasks)) slots
    (take (size reply_bytes i) (drop (reply_bytes * i) reply)) n answer
    → length answer ≡ length (take (size reply_bytes i) (drop (reply_bytes * i) reply))
    → Placed tasks slots reply i (put (reply_bytes * i) (size reply_bytes i) reply answer)
unfolding part place
placed_one tasks slots reply answer i n less room judged kept =
    let e : size task_bytes i ≡ task_bytes = omega arith in
    let f : size reply_bytes i ≡ reply_bytes = omega arith in
    rw f (placed tasks slots reply answer i n less room
    ((rw f at kept) ∙ part-long (reply_bytes * i) reply_bytes reply (omega arith))
    (rw (e, f) at judged))

-- ---- all of them

pub walked_none : (tasks slots reply : List ℕ) → Walked tasks slots reply 0 reply
walked_none tasks slots reply = record { long = refl; each = λ j less. absurd (omega arith); behind = refl }

-- A record is judged alike on equal places.
judged-same :
    (tasks slots a b x y : List ℕ) (i : ℕ) → place a i ≡ place b i → place x i ≡ place y i
    → JudgedAt tasks slots a x i → JudgedAt tasks slots b y i
judged-same tasks slots a b x y i before after judged = rw (← before, ← after) judged

pub walked_more :
    (tasks slots reply a b : List ℕ) (i : ℕ) → Walked tasks slots reply i a → Placed tasks slots a i b
    → Walked tasks slots reply (i + 1) b
unfolding place
walked_more tasks slots reply a b i w p =
    let next : reply_bytes * (i + 1) ≡ reply_bytes * i + reply_bytes = omega arith in
    let on : (l : List ℕ) → drop (reply_bytes * (i + 1)) l ≡ drop reply_bytes (drop (reply_bytes * i) l) =
    λ l. ap (λ m. drop m l) next ∙ sym (drop-drop reply_bytes (reply_bytes * i) l) in
    record {
      long = p.long ∙ w.long;
      each =
          below_more _ i
          (λ j less.
          judged-same tasks slots reply reply a b j refl
          (sym (part-before (reply_bytes * j) reply_bytes (reply_bytes * i) b a (omega arith) p.before))
          (w.each j less))
          (judged-same tasks slots a reply b b i (ap (take reply_bytes) w.behind) refl p.judged);
      behind = p.behind ∙ on a ∙ ap (drop reply_bytes) w.behind ∙ sym (on reply);
    }

pub walked_all :
    (tasks slots reply after : List ℕ) (i : ℕ) → Walked tasks slots reply i after → i ≤ whole tasks → whole tasks ≤ i
    → Walked tasks slots reply (whole tasks) after
walked_all tasks slots reply after i w upto all = rw (le_antisymm all upto) w
