-- Laws of entries as numbers: of lists of them by the law `each`, of their order by the law `ranks` of the trait Entry. Assumes nothing.
--
-- In order: lists; order; the place of an entry.
use Rattle.std.proofs.Common.{◌≡◌, ◌≢◌, ◌==◌, Some, ℕ, ◌<◌, ◌≤◌, Bool, true, false, cond, List, ◌++◌, length, get_or, set, take, drop, map, max, refl, ap, sym, ◌∙◌, arith}
use Rattle.std.proofs.Math.Dec.{ltb, eqb}
use mathlib.Core.Logic.{⊎_elim}
use Rattle.std.proofs.lemmas.Bool.{ltb-true, ltb-false, lt-ltb, eq-eqb, eqb-true, eqb-false}
use Rattle.std.proofs.lemmas.List.Sums.{fails_before_first}
use Rattle.std.proofs.lemmas.List.Quantifiers.{position-Some}
use Rattle.std.specs.List.{position, position_or_len}
use Rattle.std.specs.Option.{IsSome}
use Rattle.rules.proofs.Sums.{le-or-lt}
use Rattle.std.proofs.lemmas.List.{get_or-map, map-set, map-append, take-map, drop-map, length-map}
use Rattle.std.specs.declared.cmp.Ordering.{Ordering}
use Rattle.std.specs.declared.cmp.Ordering.TheVariants.{Less, Equal, Greater}
use Rattle.std.specs.Ordering.{nat_cmp, is_lt, ord_max}

-- ---- lists

module _ {A : Type 0} {value : A → ℕ} {values : List A → List ℕ} (each : (x : List A) → values x ≡ map value x) where
  pub entries-long : (x : List A) → length (values x) ≡ length x
  entries-long x = ap length (each x) ∙ length-map x value

  pub entries-take : (n : ℕ) (x : List A) → values (take n x) ≡ take n (values x)
  entries-take n x = each (take n x) ∙ sym (take-map value n x) ∙ ap (take n) (sym (each x))

  pub entries-drop : (n : ℕ) (x : List A) → values (drop n x) ≡ drop n (values x)
  entries-drop n x = each (drop n x) ∙ sym (drop-map value n x) ∙ ap (drop n) (sym (each x))

  pub entries-append : (x y : List A) → values (x ++ y) ≡ values x ++ values y
  entries-append x y = each (x ++ y) ∙ map-append value x y ∙ rw (each x, each y)

  pub entries-set : (x : List A) (i : ℕ) (a : A) → values (set x i a) ≡ set (values x) i (value a)
  entries-set x i a = each (set x i a) ∙ map-set value x i a ∙ ap (λ l. set l i (value a)) (sym (each x))

  pub entries-get : (x : List A) (i : ℕ) (d : A) → i < length x → get_or (values x) i 0 ≡ value (get_or x i d)
  entries-get x i d l = ap (λ y. get_or y i 0) (each x) ∙ get_or-map value x i d 0 l

  -- a is the entry that is read at place i
  pub entry-at : (x : List A) (i : ℕ) (a : A) → i < length x → a ≡ get_or x i a → get_or (values x) i 0 ≡ value a
  entry-at x i a l e = entries-get x i a l ∙ ap value (sym e)

-- ---- order

is_lt-nat_cmp : (a b : ℕ) → is_lt (nat_cmp a b) ≡ ltb a b
is_lt-nat_cmp a b = first (ltb a b) (eqb a b)
  where
    first : (p q : Bool) → is_lt (cond p Less (cond q Equal Greater)) ≡ p
    first true q = refl
    first false true = refl
    first false false = refl

module _ {A : Type 0} (value : A → ℕ) {cmp : A → A → Ordering} (ranks : (a b : A) → cmp a b ≡ nat_cmp (value a) (value b)) where
  pub is_lt-cmp : (a b : A) → is_lt (cmp a b) ≡ ltb (value a) (value b)
  is_lt-cmp a b = ap is_lt (ranks a b) ∙ is_lt-nat_cmp (value a) (value b)

  pub value-max : (a b : A) → value (ord_max cmp a b) ≡ max (value a) (value b)
  value-max a b =
      let e = is_lt-cmp b a in
      elim (ltb (value b) (value a)) as (λ t. is_lt (cmp b a) ≡ t → ltb (value b) (value a) ≡ t → value (ord_max cmp a b) ≡ max (value a) (value b)) [
        | true ↦ λ s t. let l = ltb-true _ _ t in rw s (omega arith)
        | false ↦ λ s t. let l = ltb-false _ _ t in rw s (omega arith)
      ] e refl

-- ---- the place of an entry

position-Some_from : {A : Type 0} (p : A → Bool) (x : List A) (k : ℕ) (d : A) → k < length x → p (get_or x k d) ≡ true → IsSome (position p x)
position-Some_from p x k d l e =
    let n : position_or_len p x < length x =
    ⊎_elim (λ (g : position_or_len p x ≤ k). omega arith) (λ (g : k < position_or_len p x). let f = fails_before_first p x k d g in absurd (cc)) (le-or-lt (position_or_len p x) k) in
    let t : ltb (position_or_len p x) (length x) ≡ true = lt-ltb _ _ n in
    rw t

module _ {A : Type 0} {value : A → ℕ} {values : List A → List ℕ} {eq : A → A → Bool} (each : (x : List A) → values x ≡ map value x) (same : (a b : A) → eq a b ≡ (value a == value b)) where
  pub place-some : (x : List A) (m : A) (k : ℕ) → k < length x → get_or (values x) k 0 ≡ value m → IsSome (position (λ v. eq v m) x)
  place-some x m k l e = position-Some_from (λ v. eq v m) x k m l (same _ m ∙ eq-eqb _ _ (sym (entries-get each x k m l) ∙ e))

  pub place-hit :
      (x : List A) (m : A) (i : ℕ) → position (λ v. eq v m) x ≡ Some i
      → (i < length x) × (get_or (values x) i 0 ≡ value m) × ((k : ℕ) → k < i → get_or (values x) k 0 ≢ value m)
  place-hit x m i e =
      let h = position-Some (λ v. eq v m) x i m e in (
        h.0,
        entries-get each x i m h.0 ∙ eqb-true _ _ (sym (same _ m) ∙ h.1),
        λ k l z. eqb-false _ _ (sym (same _ m) ∙ h.2 k l) (sym (entries-get each x k m (omega (arith, h.0))) ∙ z),
      )
