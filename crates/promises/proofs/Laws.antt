-- The statements of specs/Laws.antt but those of the second engine (proofs/Rounds.antt). Assumes nothing.
use mathlib.Core.Path.{◌≡◌, refl, sym, ap, ◌∙◌}
use mathlib.Core.Logic.{◌↔◌, ⊎_elim}
use mathlib.Core.Bool.{Bool, true, false, ◌&&◌, cond}
use mathlib.Core.List.{List}
use Prim.Native.Nat.{ℕ, ◌+◌, ◌-◌, ◌*◌, ◌≤◌, ◌<◌}
use native.Mathlib.Decide.{ℕ_discrete}
use native.Mathlib.Nat.{mul-one, mul-zero}
use native.Mathlib.Omega.{arith}
use borrow.Author.Tests.{lt-ltb, le-ltb, lt-leb}
use lib.IntN.{pos, ◌*ℤ◌}
use lib.ListN.{length, get_or}
use lib.Seq.{ext_get_or}
use Rattle.rules.specs.Sums.{Subset, bit, number}
use Rattle.rules.specs.Supply.{Task, supply, margin, drops, count}
use Rattle.rules.specs.Usable.{usable, grid}
use Rattle.rules.specs.Worst.{Worst, Firm}
use Rattle.rules.specs.Grant.{first, grid_ticks, NoChoice}
use Rattle.rules.proofs.Sums.{le-or-lt, number-const, any_none}
use Rattle.rules.proofs.Step.{dropped-ltb}
use Rattle.rules.proofs.Least.{margin-tick}
use Rattle.limits.specs.Refusal.{◌otherwise◌, if_none}
use Rattle.limits.proofs.Refusals.{both-none, at_next, when_false, none_left, otherwise-none, clash}
use Rattle.limits.proofs.Made.{task-within}
use Rattle.limits.specs.Limits.{Within, task_of}
use Rattle.records.specs.Records.{reply_bytes, task_record, ticks_of, asked_of}
use Rattle.records.specs.Refusals.{sizes, room, point_refusal, judge_refusal, beyond}
use Rattle.ticks.specs.Ticks.{free_of}
use Rattle.judge.specs.Points.{margin_at, counted_at}
use Rattle.quick.specs.Quick.{quick_refusal}
use Rattle.grants.specs.Grants.{grant_refusal, asked_for, Marked, GrantCall}
use Rattle.promises.specs.Laws.{CountCertain, WorstCounted, LeastMeasured, QuickAgrees, GrantNone, GrantCertain}
use Rattle.promises.proofs.Bounds.{count-le, none-most}

-- ---- counting a task that was judged

-- What judging checks, and then whether x is a half tick of the wheel: the refusals of either engine's body.
pub certain :
    (sized roomy body w x : ℕ) → (sized otherwise roomy otherwise body) ≡ 0 → x < 2 * w → (sized otherwise body otherwise beyond w x) ≡ 0
unfolding beyond
certain sized roomy body w x accepted inside =
    let first = both-none _ _ accepted in
    let next = both-none _ _ first.1 in
    sym (at_next _ _ _ first.0 (at_next _ _ _ next.1 (sym (when_false 11 _ (lt-leb _ _ inside)))))

-- Counts behind any refusals that let the worst offset pass.
pub counted-worst :
    (refusal : ℕ → ℕ) (w : ℕ) (u : Subset) (t : Task) (c o : ℕ) → Worst w u t c o → refusal o ≡ 0
    → (if_none (refusal o) (count 2 u t o) 0 ≡ c) × ((x : ℕ) → if_none (refusal x) (count 2 u t x) 0 ≤ c)
counted-worst refusal w u t c o worst none = (
  none_left _ _ _ none ∙ worst.hit,
  λ x. none-most _ _ c (λ _. worst.bound 2 x (omega arith)),
)

pub count-certain : CountCertain
unfolding judge_refusal point_refusal
count-certain task slots reply x accepted inside = certain _ _ _ _ x accepted inside

pub worst-counted : WorstCounted
unfolding counted_at
worst-counted task slots reply c o accepted worst =
    counted-worst (point_refusal task slots) _ _ _ c o worst (count-certain task slots reply o accepted worst.inside)

-- ---- the margin of a task that was judged

pub least-measured : LeastMeasured
unfolding margin_at
least-measured task slots reply g accepted least =
    let t = asked_of (task_record task) in
    let u = ticks_of (task_record task) slots in
    let at : (x : ℕ) → x < 2 * (task_record task).w → margin_at task slots x ≡ margin 2 u t x =
    λ x inside. none_left _ _ _ (count-certain task slots reply x accepted inside) in (
      λ x inside. rw (at x inside) (least.bound 2 x (omega arith)),
      (least.place, least.inside, at (2 * least.place) (omega (arith, least.inside)) ∙ margin-tick u t least.place ∙ ap (λ z. pos 2 *ℤ z) least.hit),
    )

-- ---- just yes or no

-- With room for an answer both check the same refusals.
same-refusal : (task slots reply : List ℕ) → reply_bytes ≤ length reply → judge_refusal task slots reply ≡ quick_refusal task slots
unfolding judge_refusal quick_refusal room
same-refusal task slots reply long =
    ap (λ n. sizes task slots otherwise n) (otherwise-none _ _ (when_false 2 _ (le-ltb _ _ long)))

-- A bit and a truth value that say the same are the same.
bit-says : {A : Type 0} (f : ℕ) (b : Bool) → (f ≤ 1) × ((f ≡ 1) ↔ A) → (b ≡ true) ↔ A → f ≡ bit b
unfolding bit
bit-says f true p q = p.1.1 (q.0 refl)
bit-says f false p q =
    ⊎_elim
    (λ (none : f ≤ 0). omega arith)
    (λ (one : 0 < f). clash (q.1 (p.1.0 (omega (arith, p.0)))) refl)
    (le-or-lt f 0)

pub quick-agrees : QuickAgrees
unfolding bit
quick-agrees task slots reply a n b long told quick =
    let number : a.number ≡ n = told.number ∙ same-refusal task slots reply long ∙ sym quick.number in
    (number, λ other. go number other (ℕ_discrete n 0))
  where
    go : a.number ≡ n → (n ≡ 1 → ⊥) → Dec (n ≡ 0) → a.firm ≡ bit b
    go number other (yes none) = bit-says a.firm b (told.firm (number ∙ none)) (quick.answered none)
    go number other (no bad) = (told.zero (omega arith)).0 ∙ ap bit (sym (quick.refused bad))

-- ---- no slots drop every strip

never-and : (a b : Bool) → a ≡ false → (a && b) ≡ false
never-and a b e = ap (λ x. x && b) e

and-never : (a b : Bool) → b ≡ false → (a && b) ≡ false
and-never true b e = e
and-never false b e = refl

first-none : (free : Subset) (i : ℕ) → first free 0 i ≡ false
unfolding first
first-none free i = and-never (free i) _ (le-ltb (number free i) 0 (omega arith))

grid-none : (N v loss : ℕ) (g : Subset) → ((i : ℕ) → g i ≡ false) → (x : ℕ) → grid_ticks N v loss g x ≡ false
unfolding grid_ticks usable grid
grid-none N v loss g none x = any_none _ N (λ i _. never-and (g i) _ (none i))

supply-none : (q : ℕ) (u : Subset) (D p : ℕ) → ((x : ℕ) → u x ≡ false) → supply q u D p ≡ 0
unfolding supply bit
supply-none q u D p none = number-const _ false (q * D) (λ i _. none _) ∙ mul-zero (q * D)

all-dropped : (u : Subset) (t : Task) → ((x : ℕ) → u x ≡ false) → 0 < t.e → count 1 u t 0 ≡ t.k
unfolding count drops bit
all-dropped u t none asks =
    number-const _ true t.k (λ i _.
    let nothing = supply-none 1 u t.D (0 + i * (1 * t.h)) none in
    dropped-ltb 1 u t (0 + i * (1 * t.h)) ∙ lt-ltb (supply 1 u t.D (0 + i * (1 * t.h))) (1 * t.e) (omega arith))
    ∙ mul-one t.k

-- ---- granting

module _ (l : List ℕ) (v loss e D h m k n j : ℕ) (after : List ℕ) (call : GrantCall l v loss e D h m k n j after) where
  accepted : n ≡ 0 → Within (task_of e D h m k)
  unfolding grant_refusal
  accepted z = task-within e D h m k (both-none _ _ (both-none _ _ (go (ℕ_discrete (grant_refusal l v loss e D h m k) 0))).1).1
    where
      go : Dec (grant_refusal l v loss e D h m k ≡ 0) → grant_refusal l v loss e D h m k ≡ 0
      go (yes good) = good
      go (no bad) = sym (call.refused bad) ∙ z

  none-asked : n ≡ 0 → m ≡ 0 → j ≡ 0
  unfolding Firm
  none-asked z none =
      let ticks = grid_ticks (length l) v loss (first (free_of l) 0) in
      let least = (call.granted z).smallest 0 (λ q p _. omega (arith, count-le q ticks (asked_for e D h m k) p)) in
      omega arith

  none-given : n ≡ 0 → j ≡ 0 → m ≡ 0
  unfolding Firm
  none-given z none =
      let task = asked_for e D h m k in
      let good = accepted z in
      let ticks = grid_ticks (length l) v loss (first (free_of l) 0) in
      let empty : (x : ℕ) → ticks x ≡ false = grid-none (length l) v loss _ (first-none (free_of l)) in
      let most : count 1 ticks task 0 ≤ k - m = (rw none at (call.granted z).firm) 1 0 (omega arith) in
      omega (arith, all-dropped ticks task empty good.asks, good.painted)

  none-moved : n ≡ 0 → m ≡ 0 → after ≡ l
  none-moved z none =
      let marked : Marked l 0 after = rw (none-asked z none) at (call.marked z) in
      ext_get_or 0 after l marked.long (λ i less.
      marked.each i (omega (arith, marked.long)) ∙ ap (λ b. cond b 2 (get_or l i 0)) (first-none (free_of l) i))

pub grant-none : GrantNone
grant-none l v loss e D h m k j after call = (
  (none-given l v loss e D h m k 0 j after call refl, none-asked l v loss e D h m k 0 j after call refl),
  none-moved l v loss e D h m k 0 j after call refl,
)

pub grant-certain : GrantCertain
unfolding NoChoice
grant-certain l v loss e D h m k n j after call good firm =
    ⊎_elim (λ (z : n ≡ 0). z) (λ (none : n ≡ 13). absurd (call.none none (free_of l) (λ i less free. free) firm)) (call.outcome good)
