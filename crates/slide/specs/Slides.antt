-- Counts of strips with the ticks they are counted from, and which of them is better. Definitions only.
--
--     NoBetter c t c' t'           the count c at tick t is no better than c' at t': it is less, or as large and not earlier
--     Seen m s k c t p             the count from tick p is no better than c at t
--     Hit m s k c t                c is the count from tick t
--     Pick c t d p c' t'           c' at t' is one of c at t and d at p, and neither is better
--     Ranked r c t                 r is the rank of the count c at tick t: of two ranks the better count's is the larger
--     Slid m s k a c t c' t'       c at t has become c' at t': no worse than it, nor than any tick from which a strip arrives at a
--     Round m s k                  bits and strips within the bounds, s ticks apart, less than once round
use Rattle.std.specs.Prelude.{◌≡◌, ◌⊎◌, List, ℕ, ◌+◌, ◌*◌, ◌%◌, ◌≤◌, ◌<◌, length}
use Rattle.limits.specs.Limits.{most_ticks}
use Rattle.maps.specs.Maps.{Sized, fallen}

pub record NoBetter (c t c' t' : ℕ) : Type 0 where
  pub most : c ≤ c'
  pub first : c ≡ c' → t' ≤ t

abbrev pub Seen : List ℕ → ℕ → ℕ → ℕ → ℕ → ℕ → Type 0
Seen m s k c t p = NoBetter (fallen m s k p) p c t

pub record Hit (m : List ℕ) (s k c t : ℕ) : Type 0 where
  pub inside : t < length m
  pub count : fallen m s k t ≡ c

pub record Pick (c t d p c' t' : ℕ) : Type 0 where
  pub old : NoBetter c t c' t'
  pub new : NoBetter d p c' t'
  pub one : ((c' ≡ c) × (t' ≡ t)) ⊎ ((c' ≡ d) × (t' ≡ p))

pub record Ranked (r c t : ℕ) : Type 0 where
  pub inside : t < most_ticks
  pub rank : r + t ≡ c * most_ticks

pub record Slid (m : List ℕ) (s k a c t c' t' : ℕ) : Type 0 where
  pub old : NoBetter c t c' t'
  pub new : (n p : ℕ) → n < k → p < length m → (p + n * s) % length m ≡ a → Seen m s k c' t' p
  pub hit : Hit m s k c' t'

pub record Round (m : List ℕ) (s k : ℕ) : Type 0 where
  pub sized : Sized m s k
  pub step : s < length m
