-- The mark bytes: a test of them and of their places, and giving the first free ones away. Assumes nothing.
use Rattle.std.proofs.Common.{◌≡◌, refl, sym, ap, ◌∙◌, ⊎_elim, Bool, true, false, cond, ◌&&◌, List, ℕ, ◌+◌, ◌≤◌, ◌<◌, length, get_or, set, eqb, ltb, get_or-set_same, get_or-set_other, arith}
use Rattle.std.specs.List.{list_any}
use Rattle.std.proofs.Math.Nat.{add-zero, le_refl}
use Rattle.std.proofs.Math.ListN.{length-set}
use Rattle.std.proofs.lemmas.List.Folds.{list_any_at, list_any_none}
use Rattle.std.proofs.lemmas.List.Elements.{All-from_get_or}
use borrow.Author.Tests.{lt-ltb, le-ltb}
use Rattle.rules.specs.Sums.{bit, any, number}
use Rattle.rules.specs.Grant.{first}
use Rattle.rules.proofs.Sums.{le-or-lt, any-intro, any_none, bit_le, found-or-none, number-none, number_more}
use Rattle.ticks.specs.Ticks.{free_of}

-- ---- a test of the bytes, and of their places

module _ (p : ℕ → Bool) (l : List ℕ) where
  any_list : list_any p l ≡ any (λ i. p (get_or l i 0)) (length l)
  any_list =
      ⊎_elim
      (λ x. list_any_at p l x.place 0 x.below x.passes ∙ sym (any-intro _ (length l) x.place x.below x.passes))
      (λ none. list_any_none p l (All-from_get_or (λ x. p x ≡ false) l 0 none) ∙ sym (any_none _ (length l) none))
      (found-or-none (λ i. p (get_or l i 0)) (length l))

pub bad_list : (l : List ℕ) → list_any (λ x. ltb 1 x) l ≡ any (λ i. ltb 1 (get_or l i 0)) (length l)
bad_list l = any_list (λ x. ltb 1 x) l

-- ---- giving

-- The marks below i are as after the grant, those from i on as before, and `seen` of the first i were free.
pub record Giving (l : List ℕ) (j : ℕ) (m : List ℕ) (seen i : ℕ) : Type 0 where
  pub few : seen ≤ i
  pub count : seen ≡ number (free_of l) i
  pub long : length m ≡ length l
  pub done : (x : ℕ) → x < i → get_or m x 0 ≡ cond (first (free_of l) j x) 2 (get_or l x 0)
  pub rest : (x : ℕ) → i ≤ x → get_or m x 0 ≡ get_or l x 0

pub giving-none : (l : List ℕ) (j : ℕ) → Giving l j l 0 0
giving-none l j =
    record { few = omega arith; count = sym (number-none _); long = refl; done = λ x less. absurd (omega arith); rest = λ x le. refl }

module _ (l : List ℕ) (j : ℕ) (m : List ℕ) (seen i : ℕ) (g : Giving l j m seen i) (less : i < length m) where
  -- One mark more, whether it is free or not, and all the others as they were.
  giving-more :
      (b : Bool) (a : ℕ) → eqb (get_or m i 0) 1 ≡ b → a ≡ cond (b && ltb seen j) 2 (get_or m i 0)
      → Giving l j (set m i a) (seen + bit b) (i + 1)
  unfolding first free_of
  giving-more b a e given =
      let same : get_or m i 0 ≡ get_or l i 0 = g.rest i (le_refl i) in
      let free : free_of l i ≡ b = ap (λ x. eqb x 1) (sym same) ∙ e in
      record {
        few = omega (arith, g.few, bit_le b);
        count = omega (arith, g.count, number_more (free_of l) i, ap bit free);
        long = length-set m i a ∙ g.long;
        done = λ x less'. ⊎_elim
            (λ (low : i ≤ x).
            let z : x ≡ i = omega arith in
            rw z
            (get_or-set_same m i a 0 less
            ∙ given
            ∙ ap (λ y. cond (b && ltb seen j) 2 y) same
            ∙ ap (λ y. cond (y && ltb seen j) 2 (get_or l i 0)) (sym free)
            ∙ ap (λ n. cond (free_of l i && ltb n j) 2 (get_or l i 0)) g.count))
            (λ (z : x < i). get_or-set_other m i x a 0 (λ w. omega arith) ∙ g.done x z)
            (le-or-lt i x);
        rest = λ x le. get_or-set_other m i x a 0 (λ w. omega arith) ∙ g.rest x (omega arith);
      }

  pub giving-given : eqb (get_or m i 0) 1 ≡ true → seen < j → Giving l j (set m i 2) (seen + 1) (i + 1)
  unfolding bit
  giving-given free few = giving-more true 2 free (sym (ap (λ b. cond b 2 (get_or m i 0)) (lt-ltb seen j few)))

  pub giving-late : eqb (get_or m i 0) 1 ≡ true → j ≤ seen → Giving l j (set m i (get_or m i 0)) (seen + 1) (i + 1)
  unfolding bit
  giving-late free late =
      giving-more true (get_or m i 0) free (sym (ap (λ b. cond b 2 (get_or m i 0)) (le-ltb seen j late)))

  pub giving-taken : eqb (get_or m i 0) 1 ≡ false → Giving l j (set m i (get_or m i 0)) seen (i + 1)
  unfolding bit
  giving-taken taken = rw add-zero at (giving-more false (get_or m i 0) taken refl)
