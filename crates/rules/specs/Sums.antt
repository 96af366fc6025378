-- Sums, tests, lowest and largest values over the first numbers. Definitions only.
--
--     bit b              1 for true, 0 for false
--     sum f n            f 0 + f 1 + .. + f (n − 1); 0 for n = 0
--     number f n         how many i below n have f i
--     any f n            some i below n has f i; false for n = 0
--     Lowest f n s       s is the lowest of f 0 to f n
--     Largest f n c a    c is the largest of f 0 to f (n − 1), and a is the first place that has it
--     Subset             a set of numbers, by its test
use Rattle.std.specs.Prelude.{◌≡◌, Bool, true, false, ◌||◌, ℕ, zero, suc, ◌+◌, ◌≤◌, ◌<◌}

abbrev pub Subset : Type 0
Subset = ℕ → Bool

unfoldable pub bit : Bool → ℕ
bit true = 1
bit false = 0

unfoldable pub sum : (ℕ → ℕ) → ℕ → ℕ
sum f zero = 0
sum f (suc n) = sum f n + f n

unfoldable pub number : Subset → ℕ → ℕ
number f n = sum (λ i. bit (f i)) n

unfoldable pub any : Subset → ℕ → Bool
any f zero = false
any f (suc n) = any f n || f n

pub record Lowest (f : ℕ → ℕ) (n s : ℕ) : Type 0 where
  pub bound : (x : ℕ) → x ≤ n → s ≤ f x
  pub place : ℕ
  pub inside : place ≤ n
  pub hit : f place ≡ s

pub record Largest (f : ℕ → ℕ) (n c a : ℕ) : Type 0 where
  pub bound : (i : ℕ) → i < n → f i ≤ c
  pub inside : a < n
  pub hit : f a ≡ c
  pub least : (i : ℕ) → i < a → f i < c
