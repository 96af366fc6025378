-- The statements of specs/Laws.antt on the second engine: its refusals are the table's, and where it agrees with the first. Assumes nothing.
use mathlib.Core.Path.{◌≡◌, refl, sym, ap, ◌∙◌}
use mathlib.Core.Bool.{Bool, true, false}
use mathlib.Core.List.{List}
use Prim.Native.Nat.{ℕ, zero, suc}
use native.Mathlib.Omega.{arith}
use lib.Dec.{ltb}
use borrow.Author.Tests.{le-ltb}
use Rattle.rules.specs.Supply.{count}
use Rattle.limits.specs.Refusal.{◌when◌, ◌otherwise◌, if_none}
use Rattle.limits.specs.Limits.{outside, most_strips, most_in_rounds, task_refusal, rounds_refusal}
use Rattle.limits.proofs.Refusals.{outside_above, inside}
use Rattle.records.specs.Records.{task_record, ticks_of, asked_of}
use Rattle.records.specs.Refusals.{range, slots_refusal, board_refusal, body_refusal, judge_refusal, point_refusal, job_of}
use Rattle.records.specs.declared.TaskRecord.{TaskRecord}
use Rattle.judge.specs.Points.{counted_at}
use Rattle.rounds.specs.Rounds.{rounds_body, rounds_judge_refusal, rounds_point_refusal, rounds_counted_at}
use Rattle.rounds.specs.Long.{Ready}
use Rattle.rounds.proofs.Bodies.{ready-job}
use Rattle.promises.specs.Laws.{RoundsTable, EnginesAgree, CountsAgree, RoundsCounted}
use Rattle.promises.proofs.Settled.{judge-replied, rounds-replied, same-replies}
use Rattle.promises.proofs.Laws.{certain, counted-worst}

-- ---- the table

otherwise-assoc : (a b c : ℕ) → ((a otherwise b) otherwise c) ≡ (a otherwise b otherwise c)
unfolding ◌otherwise◌
otherwise-assoc zero b c = refl
otherwise-assoc (suc a) b c = refl

-- One strip, which needn't be painted, is refused by neither 9 nor 10.
one-strip : (n : ℕ) → (9 when outside 1 most_strips otherwise 10 when ltb 1 0 otherwise n) ≡ n
unfolding outside ◌when◌ ◌otherwise◌
one-strip n = refl

pub rounds-table : RoundsTable
unfolding rounds_body body_refusal board_refusal range slots_refusal task_refusal rounds_refusal
rounds-table r l = simp (otherwise-assoc, one-strip)

-- ---- where both engines agree

-- Behind the same first refusal the next ones decide.
behind : (a b c : ℕ) → ((b ≡ 9 → ⊥) → c ≡ b) → ((a otherwise b) ≡ 9 → ⊥) → (a otherwise c) ≡ (a otherwise b)
unfolding ◌otherwise◌
behind zero b c next other = next other
behind (suc a) b c next other = refl

-- Ahead of the same last refusal the first ones do.
ahead : (a b c : ℕ) → ((a ≡ 9 → ⊥) → b ≡ a) → ((a otherwise c) ≡ 9 → ⊥) → (b otherwise c) ≡ (a otherwise c)
unfolding ◌otherwise◌
ahead a b c first other = let last : ℕ → ℕ = λ n. n otherwise c in ap last (first (λ e. other (ap last e)))

-- What the first engine's bound of 9 lets pass the second one's does.
nine :
    (k n : ℕ) → ((9 when outside k most_strips otherwise n) ≡ 9 → ⊥)
    → (9 when outside k most_in_rounds otherwise n) ≡ (9 when outside k most_strips otherwise n)
unfolding ◌when◌ ◌otherwise◌
nine k n other = go (outside k most_strips) refl
  where
    go : (b : Bool) → outside k most_strips ≡ b → (9 when outside k most_in_rounds otherwise n) ≡ (9 when outside k most_strips otherwise n)
    go true e = absurd (other (ap (λ b. 9 when b otherwise n) e))
    go false e =
        let few = inside k most_strips e in
        let less = sym (outside_above k most_in_rounds (λ z. omega (arith, few.0))) ∙ le-ltb most_in_rounds k (omega (arith, few.1)) in
        ap (λ b. 9 when b otherwise n) (less ∙ sym e)

pub body-agrees : (r : TaskRecord) (l : List ℕ) → (body_refusal r l ≡ 9 → ⊥) → rounds_body r l ≡ body_refusal r l
unfolding body_refusal task_refusal
body-agrees r l other =
    rounds-table r l ∙ behind _ _ _ (behind _ _ _ (behind _ _ _ (behind _ _ _ (nine r.k _)))) other

judge-agrees :
    (task slots reply : List ℕ) → (judge_refusal task slots reply ≡ 9 → ⊥) → rounds_judge_refusal task slots reply ≡ judge_refusal task slots reply
unfolding judge_refusal rounds_judge_refusal
judge-agrees task slots reply = behind _ _ _ (behind _ _ _ (body-agrees (task_record task) slots))

point_agrees : (task slots : List ℕ) (x : ℕ) → (point_refusal task slots x ≡ 9 → ⊥) → rounds_point_refusal task slots x ≡ point_refusal task slots x
unfolding point_refusal rounds_point_refusal
point_agrees task slots x = behind _ _ _ (ahead _ _ _ (body-agrees (task_record task) slots))

pub engines-agree : EnginesAgree
engines-agree task slots reply n n' after after' a b other =
    let same = judge-agrees task slots reply (λ e. other (a.number ∙ e)) in
    same-replies (a.number ∙ sym same ∙ sym b.number) (judge-replied a) (rounds-replied b)

pub counts-agree : CountsAgree
unfolding counted_at rounds_counted_at
counts-agree task slots x other =
    let same = point_agrees task slots x other in
    (same, λ i. if_none (same i) (count 2 (ticks_of (task_record task) slots) (asked_of (task_record task)) x) 0)

-- What the first engine accepts the second one does.
pub ready-first : (r : TaskRecord) (l : List ℕ) → body_refusal r l ≡ 0 → Ready l (job_of r)
ready-first r l none = ready-job r l (body-agrees r l (λ e. omega arith) ∙ none)

-- ---- counting a task that was judged

pub rounds-counted : RoundsCounted
unfolding rounds_judge_refusal rounds_point_refusal rounds_counted_at
rounds-counted task slots reply c o accepted worst =
    counted-worst (rounds_point_refusal task slots) _ _ _ c o worst (certain _ _ _ _ o accepted worst.inside)
