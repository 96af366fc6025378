-- Two lists along a wheel added, the second turned against the first, in two stretches. Definitions only.
--
--     byte_end, word_end           numbers below them fit 8 bits, 16 bits
--     Fit x y m                    an entry of x and one of y have a sum below m
--     Added e x y                  e has at each place x's entry and y's
--     Turning e x y s r m          e, x and y are as long as a wheel, s and r lie on it, and sums are below m
--     Turned e x y s r q           e has at each place x's entry and y's s places further round; q is r further than s
use Rattle.std.specs.Prelude.{◌≡◌, List, ℕ, ◌+◌, ◌%◌, ◌≤◌, ◌<◌, length, get_or}
use Rattle.limits.specs.Limits.{most_ticks}

abbrev pub byte_end : ℕ
byte_end = 256

abbrev pub word_end : ℕ
word_end = 65536

pub record Fit (x y : List ℕ) (m : ℕ) : Type 0 where
  pub small : (i j : ℕ) → get_or x i 0 + get_or y j 0 < m

pub record Added (e x y : List ℕ) : Type 0 where
  pub made : (i : ℕ) → i < length e → get_or e i 0 ≡ get_or x i 0 + get_or y i 0

pub record Turning (e x y : List ℕ) (s r m : ℕ) : Type 0 where
  pub written : length e ≡ length x
  pub read : length y ≡ length x
  pub near : s < length x
  pub far : r ≤ length x
  pub most : length x ≤ most_ticks
  pub fit : Fit x y m

pub record Turned (e x y : List ℕ) (s r q : ℕ) : Type 0 where
  pub at : (t : ℕ) → t < length x → get_or e t 0 ≡ get_or x t 0 + get_or y ((t + s) % length x) 0
  pub on : q ≡ (s + r) % length x
