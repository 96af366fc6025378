-- Parts of a list, for any place and any length: what is put there is read there, and the others stay. Assumes nothing.
use mathlib.Core.Path.{◌≡◌, sym, ap, ◌∙◌}
use mathlib.Core.List.{List, [], ◌∷◌, ◌++◌}
use Prim.Native.Nat.{ℕ, zero, suc, ◌+◌, ◌≤◌, ◌<◌}
use native.Mathlib.Nat.{zero-add, suc-add, add_assoc}
use native.Mathlib.Omega.{arith}
use lib.ListN.{length, get_or, take, drop, length-append, length-drop}
use lib.Seq.{length-take-le, take-nil, take_at, drop_at, take-take, drop-drop, get_or-take, get_or-drop}
use Rattle.octets.specs.Octets.{le2, le4}

-- ---- a part is read

pub part-long : (n k : ℕ) (l : List ℕ) → n + k ≤ length l → length (take k (drop n l)) ≡ k
part-long n k l fits = length-take-le k (drop n l) (rw length-drop (omega arith))

part-last : (n k : ℕ) (l : List ℕ) → take k (drop n l) ≡ drop n (take (n + k) l)
part-last zero k l = ap (λ m. take m l) (sym (zero-add k))
part-last (suc n) k [] = take-nil k ∙ ap (λ m. drop (suc n) (take m [])) (sym (suc-add n k))
part-last (suc n) k (x ∷ l) = part-last n k l ∙ ap (λ m. drop (suc n) (take m (x ∷ l))) (sym (suc-add n k))

-- Lists that agree on their first m places have the same parts there.
pub part-before :
    (n k m : ℕ) (a b : List ℕ) → n + k ≤ m → take m a ≡ take m b → take k (drop n a) ≡ take k (drop n b)
part-before n k m a b fits same =
    part-last n k a ∙ ap (drop n) (sym (take-take (n + k) m a fits) ∙ ap (take (n + k)) same ∙ take-take (n + k) m b fits)
    ∙ sym (part-last n k b)

part-byte : (n k at j : ℕ) (l : List ℕ) → at + j < k → get_or (take k (drop n l)) (at + j) 0 ≡ get_or l (n + at + j) 0
part-byte n k at j l less =
    get_or-take k (drop n l) (at + j) 0 less ∙ get_or-drop n l (at + j) 0 ∙ ap (λ m. get_or l m 0) (sym (add_assoc n at j))

part-first : (n k at : ℕ) (l : List ℕ) → at < k → get_or (take k (drop n l)) at 0 ≡ get_or l (n + at) 0
part-first n k at l less = get_or-take k (drop n l) at 0 less ∙ get_or-drop n l at 0

pub part-le2 : (n k at : ℕ) (l : List ℕ) → at + 2 ≤ k → le2 (take k (drop n l)) at ≡ le2 l (n + at)
part-le2 n k at l fits = omega (arith, part-first n k at l (omega arith), part-byte n k at 1 l (omega arith))

pub part-le4 : (n k at : ℕ) (l : List ℕ) → at + 4 ≤ k → le4 (take k (drop n l)) at ≡ le4 l (n + at)
part-le4 n k at l fits =
    omega (
      arith,
      part-first n k at l (omega arith),
      part-byte n k at 1 l (omega arith),
      part-byte n k at 2 l (omega arith),
      part-byte n k at 3 l (omega arith),
    )

-- ---- a part is put

abbrev pub put : ℕ → ℕ → List ℕ → List ℕ → List ℕ
put n k l p = take n l ++ (p ++ drop k (drop n l))

module _ (n k : ℕ) (l p : List ℕ) (fits : n + k ≤ length l) (long : length p ≡ k) where
  front : length (take n l) ≡ n
  front = length-take-le n l (omega arith)

  pub put-long : length (put n k l p) ≡ length l
  put-long = simp (length-append, length-drop) (omega (arith, front))

  pub put-there : take k (drop n (put n k l p)) ≡ p
  put-there = ap (take k) (drop_at (take n l) _ n front) ∙ take_at p _ k long

  pub put-before : take n (put n k l p) ≡ take n l
  put-before = take_at (take n l) _ n front

  pub put-behind : drop (n + k) (put n k l p) ≡ drop (n + k) l
  put-behind =
      sym (drop-drop k n (put n k l p)) ∙ ap (drop k) (drop_at (take n l) _ n front) ∙ drop_at p _ k long ∙ drop-drop k n l
