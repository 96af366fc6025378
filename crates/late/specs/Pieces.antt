-- A straight piece of supply against the need, and the edges written for it. Definitions only.
--
--     short v need side a                 v is below the need at a, or `side` ticks after it
--     Slope s m near far                  from s on, up by `far` and down by `near` a tick, m ticks don't lead below 0
--     Line v s near far m                 v is such a line
--     Steady now s end need               s and `end` are below the need (now 1), or neither is (now 0)
--     Piece s need side near far m g f    on it the first g ticks are short (f is 1) or not (f is 0), the ticks behind them the other way
--     off n s need                        1 where the parity of n edges isn't that of a supply s: an edge is still to be written
--     Part l n m r l'                     for m ticks n edges in the buffer l have become r edges in l'
--     Split l n at m g f r l'             such a part from `at` on, for every set that is as f says for g ticks and the other way for the rest
--     Stretch ..                          such a part, for every set that is short along a line
use Rattle.std.specs.Prelude.{◌≡◌, ◌||◌, List, ℕ, ◌+◌, ◌-◌, ◌*◌, ◌%◌, ◌≤◌, ◌<◌, min, ltb, length, take}
use Rattle.limits.specs.Limits.{most_ticks}
use Rattle.rules.specs.Sums.{Subset, bit}
use Rattle.runs.specs.Runs.{Lay}

-- ---- a line against the need

unfoldable pub short : (ℕ → ℕ) → ℕ → ℕ → Subset
short v need side a = ltb (v a) need || ltb (v (a + side)) need

pub record Slope (s m near far : ℕ) : Type 0 where
  pub down : near ≤ 1
  pub up : far ≤ 1
  pub fall : m * near ≤ s + m * far
  pub most : s ≤ most_ticks

pub record Line (v : ℕ → ℕ) (s near far m : ℕ) : Type 0 where
  pub at : (x : ℕ) → x ≤ m → v x + x * near ≡ s + x * far

pub record Steady (now s end need : ℕ) : Type 0 where
  pub late : now ≡ 1 → (s < need) × (end < need)
  pub painted : now ≡ 0 → (need ≤ s) × (need ≤ end)

pub record Piece (s need side near far m gap first : ℕ) : Type 0 where
  pub begins : first ≡ bit (ltb s need)
  pub early : (v : ℕ → ℕ) → Line v s near far m → (x : ℕ) → x < m → x < gap → bit (short v need side x) ≡ first
  pub later : (v : ℕ → ℕ) → Line v s near far m → (x : ℕ) → x < m → gap ≤ x → bit (short v need side x) ≡ 1 - first
  pub ends : (s' : ℕ) → s' + m * near ≡ s + m * far → gap < m → bit (ltb s' need) ≡ 1 - first

-- ---- edges written

abbrev pub off : ℕ → ℕ → ℕ → ℕ
off n s need = (n + bit (ltb s need)) % 2

-- No edge is written for a part without ticks.
pub record Part (l : List ℕ) (n m r : ℕ) (l' : List ℕ) : Type 0 where
  pub long : length l' ≡ length l
  pub most : r ≤ n + min m 2

pub record Split (l : List ℕ) (n at m gap first r : ℕ) (l' : List ℕ) : Type 0 where
  pub part : Part l n m r l'
  pub laid :
      (z : Subset) → Lay (take n l) at z
      → ((x : ℕ) → x < m → x < gap → bit (z (at + x)) ≡ first)
      → ((x : ℕ) → x < m → gap ≤ x → bit (z (at + x)) ≡ 1 - first)
      → Lay (take r l') (at + m) z
  pub early : m ≤ gap → r ≤ n + (n + first) % 2
  pub later : gap < m → (r % 2 ≡ 1 - first) × (r ≤ n + (n + first) % 2 + 1)

-- One edge for each stretch, with one still to be written counted.
pub record Stretch (l : List ℕ) (n at m s need side near far r : ℕ) (l' : List ℕ) : Type 0 where
  pub part : Part l n m r l'
  pub few : (s' : ℕ) → s' + m * near ≡ s + m * far → r + off r s' need ≤ n + off n s need + 1
  pub laid :
      (z : Subset) (v : ℕ → ℕ) → Lay (take n l) at z → Line v s near far m
      → ((x : ℕ) → x < m → z (at + x) ≡ short v need side x) → Lay (take r l') (at + m) z
