-- Any two results that a public contract allows are equal, function by function: the statements of specs/Settled.antt. Assumes nothing.
use mathlib.Core.Path.{◌≡◌, refl, sym, ap, ap₂, ◌∙◌}
use mathlib.Core.Logic.{◌⊎◌, ◌↔◌, inl, inr, ⊎_elim}
use mathlib.Core.Bool.{Bool, true, false}
use mathlib.Core.List.{List, ◌++◌}
use Prim.Native.Nat.{ℕ, zero, suc, ◌≤◌, ◌<◌}
use native.Mathlib.Nat.{le_antisymm}
use native.Mathlib.Decide.{ℕ_discrete}
use native.Mathlib.Omega.{arith}
use lib.IntN.{pos}
use lib.ListN.{length}
use lib.Seq.{ext_get_or}
use Rattle.octets.specs.Octets.{twos, over}
use Rattle.rules.specs.Sums.{bit}
use Rattle.rules.proofs.Sums.{le-or-lt}
use Rattle.rules.proofs.Worst.{worst-unique}
use Rattle.rules.proofs.Least.{least-unique}
use Rattle.rules.proofs.Grants.{grant-unique}
use Rattle.std.specs.Prelude.{Result, Ok, Err}
use Rattle.limits.specs.Refusal.{refusal, given}
use Rattle.limits.specs.declared.Refusal.{Refusal}
use Rattle.limits.proofs.Refusals.{clash}
use Rattle.limits.proofs.Checks.{number-some, number-injective}
use Rattle.records.specs.Records.{task_record, answer_bytes, part}
use Rattle.records.specs.Troubles.{about_slot, FirstAt, Placed}
use Rattle.judge.specs.Judge.{Judged, Answered}
use Rattle.judge.specs.Points.{supplied_at, margin_at, counted_at}
use Rattle.quick.specs.Quick.{Quick}
use Rattle.rounds.specs.Rounds.{RoundsJudged}
use Rattle.site.proofs.Laws as site
use Rattle.grants.specs.Grants.{GrantCall, Marked, grant_refusal}
use Rattle.lines.specs.Lines.{line_of}
use Rattle.sheets.specs.Sheets.{Row, Rows, none, more, Sheet, bad, rest}
use Rattle.fiddlequill.specs.Packed.{packed}
use Rattle.promises.specs.Settled.{JudgeSettled, RoundsJudgeSettled, SiteSettled, WhichSettled, PackedWhichSettled, PointSettled, PointsSettled, PackedPointSettled, PackedPointsSettled, RoundsCountSettled, PackedRoundsSettled, QuickSettled, PackedQuickSettled, GrantSettled, PackedSettled, LookupSettled, PutSettled, SheetSettled}

-- Answers with one number and one value are one answer.
module _ {A : Type 0} (d : A) where
  pub same-answers : (r s : Result A Refusal) → (refusal r ≡ refusal s) × (given d r ≡ given d s) → r ≡ s
  same-answers (Ok x) (Ok y) e = ap (λ z. Ok z) e.1
  same-answers (Ok x) (Err b) e = absurd (number-some b (sym e.0))
  same-answers (Err a) (Ok y) e = absurd (number-some a e.0)
  same-answers (Err a) (Err b) e = ap (λ z. Err z) (number-injective a b e.0)

-- Of a call that gives no value the number is all.
pub same-refusals : (r s : Result (Unit {0}) Refusal) → refusal r ≡ refusal s → r ≡ s
same-refusals (Ok x) (Ok y) e = refl
same-refusals (Ok x) (Err b) e = absurd (number-some b (sym e))
same-refusals (Err a) (Ok y) e = absurd (number-some a e)
same-refusals (Err a) (Err b) e = ap (λ z. Err z) (number-injective a b e)

-- Calls on equal buffers are calls on one.
pub twice :
    {P : List ℕ → ℕ → List ℕ → Type 0} {b b' : List ℕ} {n n' : ℕ} {after after' : List ℕ}
    → ((b : List ℕ) (n n' : ℕ) (after after' : List ℕ) → P b n after → P b n' after' → (n ≡ n') × (after ≡ after'))
    → b ≡ b' → P b n after → P b' n' after' → (n ≡ n') × (after ≡ after')
twice settled same p q = settled _ _ _ _ _ (rw same at p) q

-- ---- judging

-- The three ways out of judging, which both engines have: the same bytes for the same number, whatever refuses.
pub record Replied (task slots reply : List ℕ) (n : ℕ) (after : List ℕ) : Type 0 where
  pub silent : (n ≡ 1) ⊎ (n ≡ 2) → after ≡ reply
  pub refused : 2 < n → after ≡ over (answer_bytes (task_record task).id n 0 0 0 (pos 0)) reply
  pub answered : n ≡ 0 → Answered task slots reply after

module _ {task slots reply : List ℕ} {n : ℕ} {after : List ℕ} where
  pub judge-replied : Judged task slots reply n after → Replied task slots reply n after
  judge-replied a = record { silent = a.silent; refused = a.refused; answered = a.answered }

  pub rounds-replied : RoundsJudged task slots reply n after → Replied task slots reply n after
  rounds-replied a = record { silent = a.silent; refused = a.refused; answered = a.answered }

-- Two truth values that say the same are equal.
same_bit : {A : Type 0} (a b : Bool) → (a ≡ true) ↔ A → (b ≡ true) ↔ A → a ≡ b
same_bit true true p q = refl
same_bit true false p q = sym (q.1 (p.0 refl))
same_bit false true p q = p.1 (q.0 refl)
same_bit false false p q = refl

same_answer :
    (task slots reply after after' : List ℕ) → Answered task slots reply after → Answered task slots reply after' → after ≡ after'
same_answer task slots reply after after' a b =
    let worst = worst-unique _ _ _ _ _ _ _ a.worst b.worst in
    let firm : a.firm ≡ b.firm = same_bit a.firm b.firm a.said b.said in
    let least : a.margin ≡ b.margin = least-unique _ _ _ _ _ a.least b.least in
    a.bytes
    ∙ (λ i. over (answer_bytes (task_record task).id 0 (bit (firm i)) (worst.0 i) (worst.1 i) (least i)) reply)
    ∙ sym b.bytes

-- A number is 0, is 1 or 2, or is more.
kinds : (n : ℕ) → (n ≡ 0) ⊎ (((n ≡ 1) ⊎ (n ≡ 2)) ⊎ (2 < n))
kinds zero = inl refl
kinds (suc zero) = inr (inl (inl refl))
kinds (suc (suc zero)) = inr (inl (inr refl))
kinds (suc (suc (suc n))) = inr (inr (omega arith))

same-reply :
    (task slots reply : List ℕ) (n : ℕ) (after after' : List ℕ) → Replied task slots reply n after → Replied task slots reply n after'
    → (n ≡ 0) ⊎ (((n ≡ 1) ⊎ (n ≡ 2)) ⊎ (2 < n)) → after ≡ after'
same-reply task slots reply n after after' a b (inl z) = same_answer task slots reply after after' (a.answered z) (b.answered z)
same-reply task slots reply n after after' a b (inr (inl low)) = a.silent low ∙ sym (b.silent low)
same-reply task slots reply n after after' a b (inr (inr high)) = a.refused high ∙ sym (b.refused high)

-- Equal numbers have equal replies.
pub same-replies :
    {task slots reply : List ℕ} {n n' : ℕ} {after after' : List ℕ}
    → n ≡ n' → Replied task slots reply n after → Replied task slots reply n' after' → (n ≡ n') × (after ≡ after')
same-replies {n' = n'} e a b = (e, same-reply _ _ _ n' _ _ (rw e at a) b (kinds n'))

pub judge-settled : JudgeSettled
judge-settled task slots reply n n' after after' a b = same-replies (a.number ∙ sym b.number) (judge-replied a) (judge-replied b)

pub rounds-judge-settled : RoundsJudgeSettled
rounds-judge-settled task slots reply n n' after after' a b =
    same-replies (a.number ∙ sym b.number) (rounds-replied a) (rounds-replied b)

-- ---- a whole site

pub site-settled : SiteSettled
site-settled = site.site-settled judge-settled

-- ---- which slot

-- The first bad slot isn't behind another first bad one.
first-le : (f : ℕ → ℕ) (n x i i' : ℕ) → (x ≡ 0 → ⊥) → FirstAt f n x i → FirstAt f n x i' → i ≤ i'
first-le f n x i i' bad a b = ⊎_elim (λ l. l) (λ (l : i' < i). absurd (bad (sym b.here ∙ a.before i' l))) (le-or-lt i i')

about-bad : (x : ℕ) → about_slot x ≡ true → x ≡ 0 → ⊥
unfolding about_slot
about-bad x about z = clash about (ap about_slot z)

same_place : (x : ℕ) (f : ℕ → ℕ) (n t t' p p' : ℕ) → Placed x f n t p → Placed x f n t' p' → p ≡ p'
same_place x f n t t' p p' a b = go (about_slot x) refl
  where
    go : (about : Bool) → about_slot x ≡ about → p ≡ p'
    go true e =
        let bad = about-bad x e in
        le_antisymm (first-le f n x _ _ bad (a.slot e) (b.slot e)) (first-le f n x _ _ bad (b.slot e) (a.slot e))
    go false e = a.none e ∙ sym (b.none e)

pub which-settled : WhichSettled
which-settled task slots n n' p p' a b = (a.number ∙ sym b.number, same_place _ _ _ n n' p p' a b)

pub packed-which-settled : PackedWhichSettled
packed-which-settled task slots r r' a b =
    let same = which-settled task slots _ _ _ _ a.call b.call in
    a.result ∙ ap₂ packed same.0 same.1 ∙ sym b.result

-- ---- the questions at a half tick

-- Two pairs that are one pair are equal.
same-pair : {A B : Type 0} {a a' b : A} {x x' y : B} → (a ≡ b) × (x ≡ y) → (a' ≡ b) × (x' ≡ y) → (a ≡ a') × (x ≡ x')
same-pair p q = (p.0 ∙ sym q.0, p.1 ∙ sym q.1)

point-settled : {A : Type 0} (value : List ℕ → List ℕ → ℕ → A) → PointSettled value
point-settled value task slots x n n' a a' = same-pair

pub points-settled : PointsSettled
points-settled = (point-settled supplied_at, point-settled margin_at, point-settled counted_at)

packed-point : (value : List ℕ → List ℕ → ℕ → ℕ) → PackedPointSettled value
packed-point value task slots x r r' p q = p ∙ sym q

pub packed-points-settled : PackedPointsSettled
packed-points-settled =
    (packed-point supplied_at, packed-point (λ task slots x. twos (margin_at task slots x)), packed-point counted_at)

pub rounds-count-settled : RoundsCountSettled
rounds-count-settled task slots x n n' c c' = same-pair

pub packed-rounds-settled : PackedRoundsSettled
packed-rounds-settled task slots x r r' p q = p ∙ sym q

-- ---- just yes or no

same-verdict : (task slots : List ℕ) (n : ℕ) (b b' : Bool) → Quick task slots n b → Quick task slots n b' → Dec (n ≡ 0) → b ≡ b'
same-verdict task slots n b b' a c (yes z) = same_bit b b' (a.answered z) (c.answered z)
same-verdict task slots n b b' a c (no bad) = a.refused bad ∙ sym (c.refused bad)

pub quick-settled : QuickSettled
quick-settled task slots n n' b b' a c =
    let number : n ≡ n' = a.number ∙ sym c.number in
    (number, same-verdict task slots n' b b' (rw number at a) c (ℕ_discrete n' 0))

pub packed-quick-settled : PackedQuickSettled
packed-quick-settled task slots r r' a b =
    let same = quick-settled task slots _ _ _ _ a.call b.call in
    a.result ∙ (λ i. packed (same.0 i) (bit (same.1 i))) ∙ sym b.result

-- ---- granting

-- Both calls end alike: refused by the input, granted, or without a choice.
same_number :
    (l : List ℕ) (v loss e D h m k n n' j j' : ℕ) (after after' : List ℕ)
    → GrantCall l v loss e D h m k n j after → GrantCall l v loss e D h m k n' j' after' → Dec (grant_refusal l v loss e D h m k ≡ 0) → n ≡ n'
same_number l v loss e D h m k n n' j j' after after' a b (no bad) = a.refused bad ∙ sym (b.refused bad)
same_number l v loss e D h m k n n' j j' after after' a b (yes good) =
    ⊎_elim
    (λ (p : n ≡ 0). ⊎_elim
    (λ (q : n' ≡ 0). p ∙ sym q)
    (λ (q : n' ≡ 13). absurd ((grant-unique _ _ _ _ _ _ (a.granted p)).1 (b.none q)))
    (b.outcome good))
    (λ (p : n ≡ 13). ⊎_elim
    (λ (q : n' ≡ 0). absurd ((grant-unique _ _ _ _ _ _ (b.granted q)).1 (a.none p)))
    (λ (q : n' ≡ 13). p ∙ sym q)
    (b.outcome good))
    (a.outcome good)

same-marks : (l : List ℕ) (j : ℕ) (after after' : List ℕ) → Marked l j after → Marked l j after' → after ≡ after'
same-marks l j after after' a b =
    ext_get_or 0 after after' (a.long ∙ sym b.long) (λ i less.
    let inside : i < length l = omega (arith, a.long) in
    a.each i inside ∙ sym (b.each i inside))

same_rest :
    (l : List ℕ) (v loss e D h m k n j j' : ℕ) (after after' : List ℕ)
    → GrantCall l v loss e D h m k n j after → GrantCall l v loss e D h m k n j' after' → Dec (n ≡ 0) → (j ≡ j') × (after ≡ after')
same_rest l v loss e D h m k n j j' after after' a b (no n+) = (a.nothing n+ ∙ sym (b.nothing n+), a.kept n+ ∙ sym (b.kept n+))
same_rest l v loss e D h m k n j j' after after' a b (yes z) =
    let one : j ≡ j' = (grant-unique _ _ _ _ _ _ (b.granted z)).0 j (a.granted z) in
    (one, same-marks l j' after after' (rw one at (a.marked z)) (b.marked z))

pub grant-settled : GrantSettled
grant-settled l v loss e D h m k n n' j j' after after' a b =
    let number : n ≡ n' = same_number l v loss e D h m k n n' j j' after after' a b (ℕ_discrete (grant_refusal l v loss e D h m k) 0) in
    let rest = same_rest l v loss e D h m k n' j j' after after' (rw number at a) b (ℕ_discrete n' 0) in
    (number, rest.0, rest.1)

pub packed-settled : PackedSettled
packed-settled l v loss e D h m k r r' after after' a b =
    let same = grant-settled l v loss e D h m k _ _ _ _ after after' a.call b.call in
    (a.result ∙ ap₂ packed same.0 same.1 ∙ sym b.result, same.2)

-- ---- lookup

pub lookup-settled : LookupSettled
lookup-settled site factory id part part' p q = p ∙ sym q

-- ---- the sheet

pub put-settled : PutSettled
put-settled text out at n n' after after' p q = (p.behind ∙ sym q.behind, p.bytes ∙ sym q.bytes)

same_row : (task slots t t' : List ℕ) → Row task slots t → Row task slots t' → t ≡ t'
same_row task slots t t' a b =
    let same = judge-settled task slots _ _ _ _ _ a.judged b.judged in
    a.text ∙ ap line_of same.1 ∙ sym b.text

-- Rows of equal numbers of records are the same text.
same_rows :
    (l slots : List ℕ) {n n' : ℕ} {t t' : List ℕ} → n ≡ n' → Rows l slots n t → Rows l slots n' t' → t ≡ t'
same_rows l slots e none none = refl
same_rows l slots e none (more r x) = absurd (omega arith)
same_rows l slots e (more r x) none = absurd (omega arith)
same_rows l slots e (more {n} {t} {row} a x) (more {n = n'} {t = t'} {row = row'} b y) =
    let less : n ≡ n' = omega arith in
    ap₂ ◌++◌ (same_rows l slots less a b) (same_row (part l n') slots row row' (rw less at x) y)

same-sheet : (l slots t t' : List ℕ) → Sheet l slots t → Sheet l slots t' → (b : Bool) → bad l slots ≡ b → t ≡ t'
same-sheet l slots t t' a b true e = a.alone e ∙ sym (b.alone e)
same-sheet l slots t t' a b false e =
    let lines = same_rows l slots refl (a.rows e).0 (b.rows e).0 in
    (a.rows e).1 ∙ ap (λ x. x ++ rest l) lines ∙ sym (b.rows e).1

pub sheet-settled : SheetSettled
sheet-settled tasks slots out n n' after after' a b =
    let text = same-sheet tasks slots _ _ a.sheet b.sheet (bad tasks slots) refl in
    put-settled b.text out 0 n n' after after' (rw text at a.put) b.put
