-- The statement of specs/Laws.antt, and that a site's result is settled where judging is. Assumes nothing.
use mathlib.Core.Path.{◌≡◌, refl, sym, ap, ap₂, ◌∙◌}
use mathlib.Core.Logic.{⊎_elim}
use mathlib.Core.List.{List, ◌++◌}
use Prim.Native.Nat.{ℕ, ◌*◌, ◌%◌, ◌≤◌, ◌<◌}
use native.Mathlib.Decide.{ℕ_discrete}
use native.Mathlib.Omega.{arith}
use lib.IntN.{ℤ, pos}
use lib.ListN.{length, drop, length-append, length-drop, take-append-drop}
use borrow.Author.Tests.{le-ltb}
use Rattle.rules.specs.Sums.{bit}
use Rattle.octets.specs.Octets.{over}
use Rattle.limits.proofs.Refusals.{at_next, when_false}
use Rattle.records.specs.Records.{task_bytes, slot_bytes, reply_bytes, task_record, answer_bytes, whole, part}
use Rattle.records.specs.Refusals.{room, body_refusal, judge_refusal}
use Rattle.records.proofs.Parts.{sizes-good}
use Rattle.records.proofs.Accepts.{body-high}
use Rattle.judge.specs.Judge.{Judged}
use Rattle.walk.specs.Walk.{place}
use Rattle.walk.proofs.Places.{part-long}
use Rattle.site.specs.Site.{site_refusal, Sited, joined, Joined}
use Rattle.site.specs.Laws.{SiteJoined}
use Rattle.site.proofs.Rows.{joined-parts, joined_same, joined_at, joined-behind}
use Rattle.site.proofs.Sites.{roomy-none, refusal-low}

-- ---- an answer fills its place

over-long : (a b : List ℕ) → length a ≤ length b → length (over a b) ≡ length b
unfolding over
over-long a b fits = simp (length-append, length-drop) (omega arith)

answer-long :
    (task slots reply after : List ℕ) (n : ℕ) → length task ≡ task_bytes → length slots % slot_bytes ≡ 0 → length reply ≡ reply_bytes
    → Judged task slots reply n after → length after ≡ reply_bytes
unfolding judge_refusal room
answer-long task slots reply after n sized slotted long judged = go (ℕ_discrete n 0)
  where
    body : n ≡ body_refusal (task_record task) slots
    body =
        judged.number
        ∙ sym (at_next _ _ _ (sym (sizes-good task slots sized slotted))
        (at_next _ _ _ (when_false 2 _ (le-ltb (length reply) reply_bytes (omega arith))) refl))

    filled : (id f c o : ℕ) (g : ℤ) → after ≡ over (answer_bytes id n f c o g) reply → length after ≡ reply_bytes
    filled id f c o g bytes = ap length bytes ∙ over-long (answer_bytes id n f c o g) reply (omega arith) ∙ long

    go : Dec (n ≡ 0) → length after ≡ reply_bytes
    go (yes none) =
        let a = judged.answered none in
        filled (task_record task).id (bit a.firm) a.drops a.offset a.margin (rw none a.bytes)
    go (no bad) = filled (task_record task).id 0 0 0 (pos 0) (judged.refused (body-high (task_record task) slots n body bad))

-- ---- answer by answer, or all in a row

-- A reply is its places in a row, then what stands behind them.
in-places : (n : ℕ) (l : List ℕ) → l ≡ joined (place l) n ++ drop (reply_bytes * n) l
unfolding place
in-places n l =
    sym (ap (λ x. x ++ drop (reply_bytes * n) l) (joined-parts reply_bytes n l) ∙ take-append-drop (reply_bytes * n) l)

module _ (tasks slots reply after : List ℕ) (none : site_refusal tasks slots reply ≡ 0) where
  to-joined : Sited tasks slots reply 0 after → Joined tasks slots reply after
  to-joined s =
      record {
        answer = place after;
        judged = s.each refl;
        whole = in-places (whole tasks) after ∙ ap (λ x. joined (place after) (whole tasks) ++ x) (s.rest refl);
      }

  to-sited : Joined tasks slots reply after → Sited tasks slots reply 0 after
  unfolding place part
  to-sited j =
      let room = roomy-none tasks slots reply none in
      let long : (i : ℕ) → i < whole tasks → length (j.answer i) ≡ reply_bytes =
      λ i less.
      answer-long _ _ _ _ _ (part-long (task_bytes * i) task_bytes tasks (omega arith)) room.table
      (part-long (reply_bytes * i) reply_bytes reply (omega arith)) (j.judged i less) in
      record {
        number = sym none;
        silent = λ low. absurd (⊎_elim (λ one. omega arith) (λ two. omega arith) low);
        each = λ _ i less.
            rw (j.whole, joined_at reply_bytes j.answer (whole tasks) (drop (reply_bytes * whole tasks) reply) long i less)
            (j.judged i less);
        rest = λ _. ap (drop (reply_bytes * whole tasks)) j.whole ∙ joined-behind reply_bytes j.answer (whole tasks) _ long;
      }

pub site-joined : SiteJoined
site-joined tasks slots reply after none = (to-joined tasks slots reply after none, to-sited tasks slots reply after none)

-- ---- equal inputs get equal results

module _
    (settled :
    (task slots reply : List ℕ) (n n' : ℕ) (after after' : List ℕ)
    → Judged task slots reply n after → Judged task slots reply n' after' → (n ≡ n') × (after ≡ after'))
  where
    pub site-settled :
        (tasks slots reply : List ℕ) (n n' : ℕ) (after after' : List ℕ)
        → Sited tasks slots reply n after → Sited tasks slots reply n' after' → (n ≡ n') × (after ≡ after')
    site-settled tasks slots reply n n' after after' a b = (number, go (ℕ_discrete n 0))
      where
        number : n ≡ n'
        number = a.number ∙ sym b.number

        go : Dec (n ≡ 0) → after ≡ after'
        go (yes z) =
            in-places (whole tasks) after
            ∙ ap₂ ◌++◌
            (joined_same (place after) (place after') (whole tasks) (λ i less.
            (settled _ _ _ _ _ _ _ (a.each z i less) (b.each (sym number ∙ z) i less)).1))
            (a.rest z ∙ sym (b.rest (sym number ∙ z)))
            ∙ sym (in-places (whole tasks) after')
        go (no bad) =
            let low = refusal-low tasks slots reply (λ z. bad (a.number ∙ z)) in
            a.silent (rw a.number low) ∙ sym (b.silent (rw b.number low))
