-- What the room is asked and what it answers, over runs of usable ticks. Definitions only.
--
--     most_edges                the most edges of the runs that the room takes: two a slot
--     few_edges                 up to so many edges the room has smaller arrays
--     Buffers n w late map      buffers for one question of n edges on w ticks: room for late runs, and a map
--     Doubles n a b c d         arrays to double in on n ticks: a and b of bytes, c and d of 16 bits
--     Lends n l m a b c d       all that a caller lends for wheels of up to n ticks: l for late runs, m for a map, the others to double in
--     Doubling pre post w h k   a call takes every map of w ticks, and what it gives is the map's largest count and the first tick that has it
--     Topped l w h k c a        the largest number of k strips that meet a set, for every set that the runs l lay out, and the first tick that has it
--     Outlined l w m h k o      that number is known (Some), or the map m is drawn, and the largest count along it is that number
--     Highest l w t c a         the largest count half a tick after a tick, for every set of ticks that the runs lay out, and the first such tick
--     Foremost l w t c o        c is the worst count and o the worst offset (rule 6) of every such set
--     Nearest l w t g           g is the least margin of every such set
--     Found l w t r             r has both
--     Bears l w h k a b         b says whether from every tick no more than a of k strips meet a set that the runs l lay out
--     Decides l w t b           b says whether such a set of usable ticks is firm (rule 7)
--     Tallied l w t x c         c strips are dropped from half tick x (rule 4), for every such set
--
-- Side 0 is at the ticks, side 1 half a tick after them.
use Rattle.std.specs.Prelude.{◌≡◌, ◌↔◌, Bool, true, List, ℕ, ◌+◌, ◌*◌, ◌≤◌, ◌<◌, min, ℤ, length, Option, Some, None}
use Rattle.std.specs.Borrow.{Bor}
use Rattle.rules.specs.Sums.{Subset, Largest}
use Rattle.rules.specs.Supply.{count}
use Rattle.rules.specs.Worst.{Worst, Firm}
use Rattle.rules.specs.Least.{Least}
use Rattle.limits.specs.Limits.{most_slots, asked}
use Rattle.limits.specs.declared.Task.{Task}
use Rattle.runs.specs.Runs.{Laid}
use Rattle.maps.specs.Maps.{Sized, Top, met}
use Rattle.maps.specs.declared.Crest.{Crest}
use Rattle.late.specs.Late.{late_room}
use Rattle.room.specs.declared.Peak.{Peak}

abbrev pub most_edges : ℕ
most_edges = 2 * most_slots

abbrev pub few_edges : ℕ
few_edges = 128

pub record Buffers (n w : ℕ) (late map : List ℕ) : Type 0 where
  pub room : min (late_room n) w ≤ length late
  pub long : length map ≡ w

pub record Doubles (n : ℕ) (a b c d : List ℕ) : Type 0 where
  pub low : n ≤ length a
  pub spare : n ≤ length b
  pub here : n ≤ length c
  pub there : n ≤ length d

pub record Lends (n : ℕ) (l m a b c d : List ℕ) : Type 0 where
  pub late : late_room most_edges ≤ length l
  pub map : n ≤ length m
  pub doubling : Doubles n a b c d

pub record Doubling (pre : Bor (List ℕ) → ℕ → ℕ → Type 0) (post : Bor (List ℕ) → ℕ → ℕ → Crest → Type 0) (w h k : ℕ) : Type 0 where
  pub takes : (m : Bor (List ℕ)) → Sized m.now h k → 0 < k → length m.now ≡ w → pre m h k
  pub gives : (m : Bor (List ℕ)) (c : Crest) → post m h k c → Top m.now h k c.drops c.at

unfoldable pub Topped : List ℕ → ℕ → ℕ → ℕ → ℕ → ℕ → Type 0
Topped l w h k c a = (z : Subset) → Laid l w z → Largest (met w z h k) w c a

abbrev pub Outlined : List ℕ → ℕ → List ℕ → ℕ → ℕ → Option Crest → Type 0
Outlined l w m h k (Some c) = Topped l w h k c.drops c.at
Outlined l w m h k None = Sized m h k × (length m ≡ w) × ((c a : ℕ) → Top m h k c a → Topped l w h k c a)

unfoldable pub Highest : List ℕ → ℕ → Task → ℕ → ℕ → Type 0
Highest l w t c a = (u : Subset) → Laid l w u → Largest (λ i. count 2 u (asked t) (2 * i + 1)) w c a

unfoldable pub Foremost : List ℕ → ℕ → Task → ℕ → ℕ → Type 0
Foremost l w t c o = (u : Subset) → Laid l w u → Worst w u (asked t) c o

unfoldable pub Nearest : List ℕ → ℕ → Task → ℤ → Type 0
Nearest l w t g = (u : Subset) → Laid l w u → Least w u (asked t) g

abbrev pub Found : List ℕ → ℕ → Task → Peak → Type 0
Found l w t r = Foremost l w t r.drops r.offset × Nearest l w t r.margin

unfoldable pub Bears : List ℕ → ℕ → ℕ → ℕ → ℕ → Bool → Type 0
Bears l w h k a b = (z : Subset) → Laid l w z → (b ≡ true) ↔ ((p : ℕ) → p < w → met w z h k p ≤ a)

unfoldable pub Decides : List ℕ → ℕ → Task → Bool → Type 0
Decides l w t b = (u : Subset) → Laid l w u → (b ≡ true) ↔ Firm u (asked t)

unfoldable pub Tallied : List ℕ → ℕ → Task → ℕ → ℕ → Type 0
Tallied l w t x c = (u : Subset) → Laid l w u → c ≡ count 2 u (asked t) x
