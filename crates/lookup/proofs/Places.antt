-- The first place that passes a test, and which file's part lookup hands back. Assumes nothing.
use mathlib.Core.Path.{◌≡◌, refl, sym, ap, ◌∙◌}
use mathlib.Core.Bool.{Bool, true, false, cond, true≢false}
use mathlib.Core.List.{List, [], ◌∷◌}
use Prim.Native.Nat.{ℕ, zero, suc, ◌+◌, ◌*◌, ◌/◌, ◌≤◌, ◌<◌}
use native.Mathlib.Nat.{zero-add}
use native.Mathlib.Omega.{arith}
use lib.Dec.{ltb, eqb}
use lib.ListN.{take, drop, length}
use denote.Ref.{Bor}
use borrow.Author.Tests.{lt-ltb, le-ltb}
use Rattle.std.specs.Prelude.{Option, Some, None, is_some, IfSome, IsSomeAnd, MatchOption, IsTrue, slice_index_or}
use Rattle.std.specs.Option.{option_map, unwrap_or}
use Rattle.std.specs.List.{IsSubsliceAt}
use Rattle.std.specs.Iterator.Runs.{Run, SomeRun, CallKeepsClosure, NoItemPasses, EndsAtFirstPassing}
use Rattle.std.specs.Fn.{CalledAt}
use denote.Param.Members.{Mut}
use Rattle.octets.specs.Octets.{le4}
use Rattle.rules.specs.Sums.{Subset}
use Rattle.records.specs.Records.{whole, part}
use Rattle.lookup.specs.Lookup.{has, first_of, place, looked_up}

-- ---- the first place that passes

-- Of n places from i on none passes.
first-none : (f : Subset) (n i : ℕ) → ((k : ℕ) → i ≤ k → k < i + n → f k ≡ false) → first_of f n i ≡ i + n
unfolding first_of
first-none f zero i none = omega arith
first-none f (suc n) i none =
    ap (λ b. cond b i (first_of f n (i + 1))) (none i (omega arith) (omega arith))
    ∙ first-none f n (i + 1) (λ k a b. none k (omega arith) (omega arith)) ∙ omega arith

-- Place i + m is the first.
first-hit : (f : Subset) (m n i : ℕ) → m < n → f (i + m) ≡ true → ((k : ℕ) → i ≤ k → k < i + m → f k ≡ false) → first_of f n i ≡ i + m
unfolding first_of
first-hit f m zero i l hit before = absurd (omega arith)
first-hit f zero (suc n) i l hit before =
    let here : i + 0 ≡ i = omega arith in
    ap (λ b. cond b i (first_of f n (i + 1))) (ap f (sym here) ∙ hit) ∙ sym here
first-hit f (suc m) (suc n) i l hit before =
    let next : i + suc m ≡ i + 1 + m = omega arith in
    ap (λ b. cond b i (first_of f n (i + 1))) (before i (omega arith) (omega arith))
    ∙ first-hit f m n (i + 1) (omega arith) (ap f (sym next) ∙ hit) (λ k a b. before k (omega arith) (omega arith)) ∙ sym next

-- ---- a run over the whole records of a file

some_at : {A : Type 0} (o : Option A) (v : A) → option_map (λ y. y) o ≡ Some v → (x : A) × (o ≡ Some x)
some_at None v e = absurd (true≢false (sym (ap (λ o. is_some o) e)))
some_at (Some x) v e = (x, refl)

module _ {S : Type 0} {steps : S → Option (Bor (List ℕ)) → S → Type 0} (u : Run steps) (l : List ℕ) (id : ℕ) where
  item_at : (k : ℕ) → k < u.len → (x : Bor (List ℕ)) × (u.at k ≡ Some x)
  item_at k less = go u.items refl
    where
      go : (xs : List (Bor (List ℕ))) → u.items ≡ xs → (x : Bor (List ℕ)) × (u.at k ≡ Some x)
      go [] e = let none : u.len ≡ 0 = u.long ∙ ap length e in absurd (omega arith)
      go (x ∷ xs) e = some_at (u.at k) _ (u.reads k x less)

  -- The item at place k is record k.
  abbrev Cut : Type 0
  Cut = (u.len * 32 ≤ length l) × (u.whole ≡ true → u.len ≡ length l / 32)
      × ((k : ℕ) → IfSome (u.at k) (λ x. (length x.now ≡ 32) × (k * 32 + 32 ≤ length l) × IsSubsliceAt 32 l (k * 32) x.now))

  module _ (cut : Cut) where
    record_at : (k : ℕ) (x : Bor (List ℕ)) → u.at k ≡ Some x → IsSubsliceAt 32 l (k * 32) x.now
    record_at k x e = (rw e at (cut.2 k)).2

    has-item : (k : ℕ) (x : Bor (List ℕ)) → u.at k ≡ Some x → has l id k ≡ eqb (le4 x.now 0) id
    unfolding has
    has-item k x e =
        let same = (record_at k x e).2 in
        let at : k * 32 ≡ 32 * k = omega arith in
        let byte = λ (j : ℕ) (less : j < 32). same j 0 less ∙ ap (λ n. slice_index_or l (n + j) 0) at in
        let first : slice_index_or x.now 0 0 ≡ slice_index_or l (32 * k) 0 = byte 0 (omega arith) ∙ ap (λ n. slice_index_or l n 0) (omega arith) in
        rw (first, byte 1 (omega arith), byte 2 (omega arith), byte 3 (omega arith)) refl

    -- No record passed: none has the id.
    pub no_record :
        u.whole ≡ true → ((k : ℕ) → IfSome (u.at k) (λ x. eqb (le4 x.now 0) id ≡ false)) → whole l ≤ place l id
    unfolding place
    no_record all none =
        let e = first-none (has l id) (whole l) 0 (λ k a b. here k (omega (arith, cut.1 all))) in omega (arith, e)
      where
        here : (k : ℕ) → k < u.len → has l id k ≡ false
        here k less = let x = item_at k less in has-item k x.0 x.1 ∙ rw x.1 at (none k)

    -- Record i passed, and none before it.
    pub first_record :
        (r : Bor (List ℕ)) (i : ℕ) → u.len ≡ i + 1 → u.at i ≡ Some r → eqb (le4 r.now 0) id ≡ true
        → ((k : ℕ) → k < i → IsSomeAnd (u.at k) (λ x. eqb (le4 x.now 0) id ≡ false))
        → (place l id < whole l) × (r.now ≡ part l (place l id))
    unfolding place part
    first_record r i long at hit before =
        (rw here inside, rw here ((record_at i r at).0 ∙ ap (λ n. take 32 (drop n l)) (omega arith)))
      where
        inside : i < whole l
        inside = omega (arith, cut.0, long)

        miss : (k : ℕ) → k < i → has l id k ≡ false
        miss k less = let x = item_at k (omega (arith, long)) in has-item k x.0 x.1 ∙ rw x.1 at (before k less)

        here : first_of (has l id) (whole l) 0 ≡ i
        here = first-hit (has l id) i (whole l) 0 inside (ap (has l id) (zero-add i) ∙ has-item i r at ∙ hit) (λ k a b. miss k (omega arith)) ∙ zero-add i

if_weaker : {A : Type 0} (o : Option A) {P Q : A → Type 0} → IfSome o P → ((x : A) → P x → Q x) → IfSome o Q
if_weaker None m q = m
if_weaker (Some x) m q = q x m

some_weaker : {A : Type 0} (o : Option A) {P Q : A → Type 0} → IsSomeAnd o P → ((x : A) → P x → Q x) → IsSomeAnd o Q
some_weaker None m q = m
some_weaker (Some x) m q = q x m

-- What `find` over a file's whole records gives, where its closure tells which of them has the id.
pub found :
    {S F : Type 0} {steps : S → Option (Bor (List ℕ)) → S → Type 0} {g : Mut F (Bor (Bor (List ℕ)) × Unit {0}) Bool} {s : S} {f : F}
    (l : List ℕ) (id : ℕ) (o : Option (Bor (List ℕ)))
    → SomeRun steps s (λ u. MatchOption o (IsTrue u.whole × NoItemPasses u g f) (EndsAtFirstPassing u g f))
    → ((u : Run steps) → u.from ≡ s → Cut u l id) → CallKeepsClosure g f
    → ((x : Bor (List ℕ)) (b : Bool) → CalledAt g f x b f → eqb (le4 x.now 0) id ≡ b)
    → MatchOption o (whole l ≤ place l id) (λ r. (place l id < whole l) × (r.now ≡ part l (place l id)))
found l id None run cut keeps tells =
    no_record run.0 l id (cut run.0 run.1) run.2.0 (λ k. if_weaker (run.0.at k) (run.2.1 keeps k) (λ x h. tells x false h))
found l id (Some r) run cut keeps tells =
    let called = run.2.3 keeps in
    first_record run.0 l id (cut run.0 run.1) r run.2.0 run.2.1 run.2.2 (tells r true called.0)
    (λ k less. some_weaker (run.0.at k) (called.1 k less) (λ x h. tells x false h))

-- ---- which file's part is handed back

-- ---- which file's part is handed back

module _ (s f : List ℕ) (id : ℕ) where
  abbrev Found : List ℕ → Option (Bor (List ℕ)) → Type 0
  Found l o = MatchOption o (whole l ≤ place l id) (λ r. (place l id < whole l) × (r.now ≡ part l (place l id)))

  -- What lookup goes on to where the site file has no such record.
  abbrev rest : List ℕ
  rest = cond (ltb (place f id) (whole f)) (part f (place f id)) []

  from-rest : (o : Option (Bor (List ℕ))) (none : Bor (List ℕ)) → none.now ≡ [] → Found f o → (unwrap_or o none).now ≡ rest
  from-rest None none e m = e ∙ sym (ap (λ b. cond b (part f (place f id)) []) (le-ltb (place f id) (whole f) m))
  from-rest (Some r) none e m = m.1 ∙ sym (ap (λ b. cond b (part f (place f id)) []) (lt-ltb (place f id) (whole f) m.0))

  -- o is what the site file gives, p what is gone on with.
  pub handed :
      (P : Type 0) (o p : Option (Bor (List ℕ))) (none : Bor (List ℕ)) → none.now ≡ [] → Found s o
      → MatchOption o P (λ x. p ≡ Some x) → (P → Found f p) → (unwrap_or p none).now ≡ looked_up s f id
  unfolding looked_up
  handed P None p none e m goes far =
      from-rest p none e (far goes) ∙ sym (ap (λ b. cond b (part s (place s id)) rest) (le-ltb (place s id) (whole s) m))
  handed P (Some r) p none e m goes far =
      ap (λ q. (unwrap_or q none).now) goes ∙ m.1
      ∙ sym (ap (λ b. cond b (part s (place s id)) rest) (lt-ltb (place s id) (whole s) m.0))
