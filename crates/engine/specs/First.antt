-- The first largest entry of a list, and how far a search for it has come. Definitions only.
--
--     Most x from n to m       no entry of x from place from to n − 1 is more than m, and one before place to is m
--     Led x n m at             none of the first n entries is more than m, one from place at on is m, all before less
--     First x m t              m is the largest entry and t its first place
use Rattle.std.specs.Prelude.{◌≡◌, List, ℕ, ◌≤◌, ◌<◌, length, get_or}
use Rattle.rules.specs.Sums.{Largest}

pub record Most (x : List ℕ) (from n to m : ℕ) : Type 0 where
  pub bound : (i : ℕ) → from ≤ i → i < n → get_or x i 0 ≤ m
  pub place : ℕ
  pub start : from ≤ place
  pub inside : place < to
  pub hit : get_or x place 0 ≡ m

pub record Led (x : List ℕ) (n m at : ℕ) : Type 0 where
  pub bound : (i : ℕ) → i < n → get_or x i 0 ≤ m
  pub place : ℕ
  pub start : at ≤ place
  pub inside : place < length x
  pub hit : get_or x place 0 ≡ m
  pub least : (i : ℕ) → i < at → get_or x i 0 < m

abbrev pub First : List ℕ → ℕ → ℕ → Type 0
First x m t = Largest (λ i. get_or x i 0) (length x) m t
