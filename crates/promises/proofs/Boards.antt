-- The statements of specs/Boards.antt. Assumes nothing.
--
-- In order: the ticks of a task's own slots; what twins have in common; the same ticks give the same answers; the same slots do.
use mathlib.Core.Path.{◌≡◌, refl, sym, ap, ap₂, ◌∙◌}
use mathlib.Core.Logic.{◌↔◌}
use mathlib.Core.Bool.{Bool, true, false, ◌&&◌, ◌||◌, or-false, cond}
use mathlib.Core.List.{List, [], ◌∷◌, ◌++◌, append-nil}
use Prim.Native.Nat.{ℕ, zero, suc, ◌+◌, ◌%◌, ◌≤◌, ◌<◌}
use native.Mathlib.Nat.{zero-add}
use native.Mathlib.Omega.{arith}
use lib.Dec.{ltb, eqb}
use lib.IntN.{pos}
use lib.ListN.{length, get_or, take, length-append, get_or-append}
use lib.Seq.{get_or-append_seam}
use Rattle.rules.specs.Sums.{Subset, any, bit}
use Rattle.rules.specs.Supply.{Task, supply, margin, count}
use Rattle.rules.specs.Usable.{Slot, covers, touches, opens, usable, table_of}
use Rattle.rules.specs.Worst.{Worst, Firm}
use Rattle.rules.specs.Least.{Least}
use Rattle.octets.specs.Octets.{le4, over}
use Rattle.limits.specs.Refusal.{◌when◌, ◌otherwise◌, if_none}
use Rattle.limits.specs.Limits.{outside, most_need, most_period, most_in_rounds, task_refusal}
use Rattle.limits.proofs.Refusals.{both-none, otherwise-none}
use Rattle.records.specs.Records.{task_record, slot_at, slot_of, owned, board, board_of, ticks_of, asked_of, answer_bytes, part}
use Rattle.records.specs.Refusals.{sizes, room, board_refusal, body_refusal, beyond, judge_refusal, point_refusal, which_refusal}
use Rattle.judge.specs.Points.{supplied_at, margin_at, counted_at}
use Rattle.quick.specs.Quick.{quick_refusal, Quick}
use Rattle.rounds.specs.Rounds.{rounds_body, rounds_judge_refusal, rounds_point_refusal, rounds_counted_at}
use Rattle.walk.specs.Walk.{place}
use Rattle.walk.proofs.Places.{part-le4}
use Rattle.fiddlequill.specs.Packed.{packed}
use Rattle.promises.specs.Boards.{asked_bytes, own_slots, Twins, SameTicks, SameSlots, SameAnswers, SameRounds, OwnTicks, TicksTell, OthersAreSilent, SitesAgree, VerdictsAgree, RoundsAreSilent}
use Rattle.promises.proofs.Settled.{Replied, judge-replied, rounds-replied, same-replies, quick-settled}
use Rattle.promises.proofs.Rounds.{rounds-table}

-- ---- the ticks of a task's own slots

any-cong : (f g : Subset) (n : ℕ) → ((i : ℕ) → i < n → f i ≡ g i) → any f n ≡ any g n
unfolding any
any-cong f g zero same = refl
any-cong f g (suc n) same = ap₂ ◌||◌ (any-cong f g n (λ i less. same i (omega arith))) (same n (omega arith))

abbrev nowhere : Slot
nowhere = record { start = 0; end = 0; loss = 0 }

-- Some slot of a list passes a test.
listed : (Slot → Bool) → List Slot → Bool
listed test s = any (λ i. true && test (get_or s i nowhere)) (length s)

module _ (test : Slot → Bool) where
  listed_more : (s : List Slot) (x : Slot) → listed test (s ++ x ∷ []) ≡ (listed test s || test x)
  unfolding listed any
  listed_more s x =
      let long : length (s ++ x ∷ []) ≡ suc (length s) = length-append s (x ∷ []) ∙ omega arith in
      rw long
      (ap₂ ◌||◌
      (any-cong _ _ (length s) (λ i less. ap test (get_or-append s (x ∷ []) nowhere i less)))
      (ap test (get_or-append_seam s x [] nowhere)))

  own-listed :
      (l : List ℕ) (first id n : ℕ)
      → any (λ i. owned l first id i && test (slot_of (slot_at l first i))) n ≡ listed test (own_slots l first id n)
  unfolding any listed own_slots
  own-listed l first id zero = refl
  own-listed l first id (suc n) =
      ap (λ b. b || (owned l first id n && test (slot_of (slot_at l first n)))) (own-listed l first id n) ∙ go (owned l first id n)
    where
      go :
          (mine : Bool) → (listed test (own_slots l first id n) || (mine && test (slot_of (slot_at l first n))))
          ≡ listed test (own_slots l first id n ++ cond mine (slot_of (slot_at l first n) ∷ []) [])
      go true = sym (listed_more (own_slots l first id n) (slot_of (slot_at l first n)))
      go false = or-false _ ∙ sym (ap (listed test) (append-nil (own_slots l first id n)))

module _ (w : ℕ) where
  -- A slot that ends at tick a of the wheel.
  ends : ℕ → Slot → Bool
  ends a s = eqb (s.end % w) (a % w)

  -- A slot that gives tick y, where `met` tells at which ticks an own slot ends.
  gives : ℕ → Subset → Slot → Bool
  gives y met s = covers (cond (met s.start) s.start (s.start + s.loss)) s.end y

pub own-ticks : OwnTicks
unfolding ticks_of board_of board usable opens touches table_of listed ends gives
own-ticks r l x =
    let own : (Slot → Bool) → Bool = λ test. any (λ i. owned l r.first r.id i && test (slot_of (slot_at l r.first i))) r.count in
    own-listed (gives r.w (x % r.w) (λ a. own (ends r.w a))) l r.first r.id r.count
    ∙ (λ i. listed (gives r.w (x % r.w) (λ a. own-listed (ends r.w a) l r.first r.id r.count i)) (own_slots l r.first r.id r.count))

-- ---- what twins have in common

-- The refusals of a task's own numbers, 6 to 10: the first engine's, and those by whole rounds.
numbers : Task → ℕ
numbers t = task_refusal t.e t.D t.h t.m t.k

rounds_numbers : Task → ℕ
rounds_numbers t =
    6 when outside t.e most_need
    otherwise 7 when outside t.h most_period
    otherwise 8 when outside t.D t.h
    otherwise 9 when outside t.k most_in_rounds
    otherwise 10 when ltb t.k t.m

-- On a good board nothing else is refused.
module _ (task slots : List ℕ) (good : which_refusal task slots ≡ 0) where
  good-sizes : sizes task slots ≡ 0
  unfolding which_refusal
  good-sizes = (both-none _ _ good).0

  good-board : board_refusal (task_record task) slots ≡ 0
  unfolding which_refusal
  good-board = (both-none _ _ good).1

  good-body : body_refusal (task_record task) slots ≡ numbers (asked_of (task_record task))
  unfolding body_refusal numbers
  good-body = otherwise-none _ _ good-board

  good-rounds : rounds_body (task_record task) slots ≡ rounds_numbers (asked_of (task_record task))
  unfolding rounds_numbers
  good-rounds = rounds-table (task_record task) slots ∙ otherwise-none _ _ good-board

module _ (task slots task' slots' : List ℕ) (twins : Twins task slots task' slots') where
  same-four : (at : ℕ) → at + 4 ≤ asked_bytes → le4 task at ≡ le4 task' at
  same-four at fits =
      sym (read task) ∙ ap (λ l. le4 l at) twins.asked ∙ read task'
    where
      read : (l : List ℕ) → le4 (take asked_bytes l) at ≡ le4 l at
      read l = part-le4 0 asked_bytes at l fits ∙ ap (le4 l) (zero-add at)

  same_id : (task_record task).id ≡ (task_record task').id
  same_id = same-four 0 (omega arith)

  same-wheel : (task_record task).w ≡ (task_record task').w
  same-wheel = same-four 4 (omega arith)

  same_asked : asked_of (task_record task) ≡ asked_of (task_record task')
  same_asked = λ i. record {
    e = same-four 8 (omega arith) i;
    D = same-four 12 (omega arith) i;
    h = same-four 16 (omega arith) i;
    m = same-four 20 (omega arith) i;
    k = same-four 24 (omega arith) i;
  }

  same-sizes : sizes task slots ≡ sizes task' slots'
  same-sizes = good-sizes task slots twins.here ∙ sym (good-sizes task' slots' twins.there)

  same_body : body_refusal (task_record task) slots ≡ body_refusal (task_record task') slots'
  same_body = good-body task slots twins.here ∙ ap numbers same_asked ∙ sym (good-body task' slots' twins.there)

  same-rounds : rounds_body (task_record task) slots ≡ rounds_body (task_record task') slots'
  same-rounds = good-rounds task slots twins.here ∙ ap rounds_numbers same_asked ∙ sym (good-rounds task' slots' twins.there)

  same-judge : (reply : List ℕ) → judge_refusal task slots reply ≡ judge_refusal task' slots' reply
  unfolding judge_refusal
  same-judge reply = λ i. same-sizes i otherwise room reply otherwise same_body i

  same_point : (x : ℕ) → point_refusal task slots x ≡ point_refusal task' slots' x
  unfolding point_refusal
  same_point x = λ i. same-sizes i otherwise same_body i otherwise beyond (same-wheel i) x

  same-rounds-judge : (reply : List ℕ) → rounds_judge_refusal task slots reply ≡ rounds_judge_refusal task' slots' reply
  unfolding rounds_judge_refusal
  same-rounds-judge reply = λ i. same-sizes i otherwise room reply otherwise same-rounds i

  same-rounds-point : (x : ℕ) → rounds_point_refusal task slots x ≡ rounds_point_refusal task' slots' x
  unfolding rounds_point_refusal
  same-rounds-point x = λ i. same-sizes i otherwise same-rounds i otherwise beyond (same-wheel i) x

  same-quick : quick_refusal task slots ≡ quick_refusal task' slots'
  unfolding quick_refusal
  same-quick = λ i. same-sizes i otherwise same_body i

  -- ---- the same ticks give the same answers

  module _ (same : SameTicks task slots task' slots') where
    same-ticks : ticks_of (task_record task) slots ≡ ticks_of (task_record task') slots'
    same-ticks = λ i x. same x i

    same-replied : {reply : List ℕ} {n : ℕ} {after : List ℕ} → Replied task slots reply n after → Replied task' slots' reply n after
    same-replied {reply} {n} a =
        record {
          silent = a.silent;
          refused = λ high. a.refused high ∙ (λ i. over (answer_bytes (same_id i) n 0 0 0 (pos 0)) reply);
          answered = λ none.
              let s = a.answered none in
              record {
                drops = s.drops;
                offset = s.offset;
                firm = s.firm;
                margin = s.margin;
                worst = coe 0 1 (i. Worst (same-wheel i) (same-ticks i) (same_asked i) s.drops s.offset) s.worst;
                said = coe 0 1 (i. (s.firm ≡ true) ↔ Firm (same-ticks i) (same_asked i)) s.said;
                least = coe 0 1 (i. Least (same-wheel i) (same-ticks i) (same_asked i) s.margin) s.least;
                bytes = s.bytes ∙ (λ i. over (answer_bytes (same_id i) 0 (bit s.firm) s.drops s.offset s.margin) reply);
              };
        }

    same-quicked : (n : ℕ) (b : Bool) → Quick task slots n b → Quick task' slots' n b
    same-quicked n b a =
        record {
          number = a.number ∙ same-quick;
          refused = a.refused;
          answered = λ none. coe 0 1 (i. (b ≡ true) ↔ Firm (same-ticks i) (same_asked i)) (a.answered none);
        }

    same-answers : SameAnswers task slots task' slots'
    unfolding supplied_at margin_at counted_at
    same-answers =
        record {
          judged = λ reply n n' after after' a b.
              same-replies (a.number ∙ same-judge reply ∙ sym b.number) (same-replied (judge-replied a)) (judge-replied b);
          refused = same_point;
          supplied = λ x i. if_none (same_point x i) (supply 2 (same-ticks i) (same_asked i).D x) 0;
          measured = λ x i. if_none (same_point x i) (margin 2 (same-ticks i) (same_asked i) x) (pos 0);
          counted = λ x i. if_none (same_point x i) (count 2 (same-ticks i) (same_asked i) x) 0;
          wheel = same-wheel;
          ticks = same-ticks;
          asked = same_asked;
        }

    same-in-rounds : SameRounds task slots task' slots'
    unfolding rounds_counted_at
    same-in-rounds =
        record {
          judged = λ reply n n' after after' a b.
              same-replies (a.number ∙ same-rounds-judge reply ∙ sym b.number) (same-replied (rounds-replied a)) (rounds-replied b);
          refused = same-rounds-point;
          counted = λ x i. if_none (same-rounds-point x i) (count 2 (same-ticks i) (same_asked i) x) 0;
        }

pub ticks-tell : TicksTell
ticks-tell = same-answers

-- ---- the same slots do

slots-tell : (task slots task' slots' : List ℕ) → Twins task slots task' slots' → SameSlots task slots task' slots' → SameTicks task slots task' slots'
slots-tell task slots task' slots' twins same x =
    own-ticks (task_record task) slots x
    ∙ (λ i. usable (same-wheel task slots task' slots' twins i) (table_of (same i)) x)
    ∙ sym (own-ticks (task_record task') slots' x)

pub others-are-silent : OthersAreSilent
others-are-silent task slots task' slots' twins same =
    ticks-tell task slots task' slots' twins (slots-tell task slots task' slots' twins same)

pub verdicts-agree : VerdictsAgree
verdicts-agree task slots task' slots' n n' b b' twins same one other =
    quick-settled task' slots' n n' b b'
    (same-quicked task slots task' slots' twins (slots-tell task slots task' slots' twins same) n b one) other

pub rounds-are-silent : RoundsAreSilent
rounds-are-silent task slots task' slots' twins same =
    same-in-rounds task slots task' slots' twins (slots-tell task slots task' slots' twins same)

pub sites-agree : SitesAgree
sites-agree tasks slots reply after tasks' slots' reply' after' i j a b less less' twins same before =
    ((others-are-silent (part tasks i) slots (part tasks' j) slots' twins same).judged (place reply i) _ _ _ _
    (a.each refl i less) (rw (← before) at (b.each refl j less'))).1

-- Two packed results of a question at a half tick.
pub same-packed :
    {task slots task' slots' : List ℕ} {v v' r r' : ℕ} → Twins task slots task' slots' × SameSlots task slots task' slots' → (x : ℕ)
    → (SameAnswers task slots task' slots' → v ≡ v') → r ≡ packed (point_refusal task slots x) v → r' ≡ packed (point_refusal task' slots' x) v'
    → r ≡ r'
same-packed alike x value a b =
    let same = others-are-silent _ _ _ _ alike.0 alike.1 in
    a ∙ ap₂ packed (same.refused x) (value same) ∙ sym b
