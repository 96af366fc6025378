-- Lists in a row: parts of a list joined again, and a row cut into its lists. Assumes nothing.
use mathlib.Core.Path.{◌≡◌, refl, sym, ap, ap₂, ◌∙◌}
use mathlib.Core.Logic.{⊎_elim}
use mathlib.Core.List.{List, ◌++◌, append_assoc}
use Prim.Native.Nat.{ℕ, zero, suc, ◌*◌, ◌<◌}
use native.Mathlib.Nat.{mul-zero, mul-suc, le_of_suc-le-suc, eq-or-lt_of_le}
use native.Mathlib.Omega.{arith}
use lib.ListN.{length, take, drop, length-append}
use lib.Seq.{take_at, drop_at, take-add}
use Rattle.site.specs.Site.{joined}

pub joined-parts : (k n : ℕ) (l : List ℕ) → joined (λ i. take k (drop (k * i) l)) n ≡ take (k * n) l
unfolding joined
joined-parts k zero l = ap (λ m. take m l) (sym (mul-zero k))
joined-parts k (suc n) l =
    ap (λ x. x ++ take k (drop (k * n) l)) (joined-parts k n l) ∙ sym (take-add (k * n) k l)
    ∙ ap (λ m. take m l) (sym (mul-suc k n))

pub joined_same : (f g : ℕ → List ℕ) (n : ℕ) → ((i : ℕ) → i < n → f i ≡ g i) → joined f n ≡ joined g n
unfolding joined
joined_same f g zero same = refl
joined_same f g (suc n) same = ap₂ ◌++◌ (joined_same f g n (λ i less. same i (omega arith))) (same n (omega arith))

module _ (k : ℕ) (f : ℕ → List ℕ) where
  joined-long : (n : ℕ) → ((i : ℕ) → i < n → length (f i) ≡ k) → length (joined f n) ≡ k * n
  unfolding joined
  joined-long zero long = sym (mul-zero k)
  joined-long (suc n) long =
      length-append (joined f n) (f n) ∙ omega (arith, joined-long n (λ i less. long i (omega arith)), long n (omega arith), mul-suc k n)

  pub joined_at :
      (n : ℕ) (rest : List ℕ) → ((i : ℕ) → i < n → length (f i) ≡ k)
      → (i : ℕ) → i < n → take k (drop (k * i) (joined f n ++ rest)) ≡ f i
  unfolding joined
  joined_at zero rest long i less = absurd (omega arith)
  joined_at (suc n) rest long i less =
      let all : (j : ℕ) → j < n → length (f j) ≡ k = λ j l. long j (omega arith) in
      rw append_assoc (⊎_elim
      (λ (last : i ≡ n).
      rw last (ap (take k) (drop_at (joined f n) (f n ++ rest) (k * n) (joined-long n all)) ∙ take_at (f n) rest k (long n (omega arith))))
      (λ l. joined_at n (f n ++ rest) all i l)
      (eq-or-lt_of_le (le_of_suc-le-suc less)))

  pub joined-behind :
      (n : ℕ) (rest : List ℕ) → ((i : ℕ) → i < n → length (f i) ≡ k) → drop (k * n) (joined f n ++ rest) ≡ rest
  joined-behind n rest long = drop_at (joined f n) rest (k * n) (joined-long n long)
