-- Boards and grants laid out as runs, in a buffer. Definitions only.
--
--     Span l n from to step r l'    the first n entries of l have come to `from`, the first r of l' go on to `to`, the ticks between as step says
--     Slotted l n at from to r l'   the same of the ticks up to `from`, not usable, and those from there to `to`, usable; of these there may be none
--     met_first w s n               where the wheel's first slot is met as the wheel turns: at 0 where the last of n slots is the painter's and ends
--                                   at w, else at w, where no slot starts
--     met_at w s i                  where slot i is met: at the end of the painter's last slot before it, the wheel's turn included
--     opens_at start loss met       the first tick of a slot that isn't lost
--     Fits l first n w runs         what laying a board out is handed: a good table of n slots on a wheel of w ticks, room for two edges each
--     free_of l                     the free slots of a mark buffer: those with mark 1
--     GivenRow l i seen j k         from slot i to slot k, which isn't among them, all are free and among the first j, with `seen` before slot i
--     WholeRow l i seen j k         the same, and slot k, if there is one, isn't granted
--     GridFits l g all runs         what laying a grant out is handed: a wheel within its bound, the number of free slots, room for two edges each
use Rattle.std.specs.Prelude.{◌≡◌, true, false, cond, ◌&&◌, List, ℕ, zero, suc, ◌+◌, ◌-◌, ◌*◌, ◌/◌, ◌%◌, ◌≤◌, ◌<◌, ltb, eqb, length, get_or, take}
use Rattle.rules.specs.Sums.{Subset, bit, number}
use Rattle.rules.specs.Usable.{Table}
use Rattle.limits.specs.Limits.{most_ticks}
use Rattle.limits.specs.declared.Grid.{Grid}
use Rattle.records.specs.Records.{slot_bytes, slot_at}
use Rattle.records.specs.Refusals.{first_bad}
use Rattle.runs.specs.Runs.{Lay}

pub record Span (l : List ℕ) (n from to step r : ℕ) (l' : List ℕ) : Type 0 where
  pub long : length l' ≡ length l
  pub high : r ≤ n + 1
  pub none : to ≤ from → r ≡ n
  pub parity : from < to → r % 2 ≡ step
  pub lay :
      (u : Subset) → Lay (take n l) from u → ((x : ℕ) → from ≤ x → x < to → bit (u x) ≡ step) → Lay (take r l') to u

-- Two edges more only where the last one starts a run.
pub record Slotted (l : List ℕ) (n at from to r : ℕ) (l' : List ℕ) : Type 0 where
  pub long : length l' ≡ length l
  pub high : r ≤ n + 1 + r % 2
  pub lay :
      (u : Subset) → Lay (take n l) at u → ((x : ℕ) → at ≤ x → x < from → bit (u x) ≡ 0)
      → ((x : ℕ) → from ≤ x → x < to → bit (u x) ≡ 1) → Lay (take r l') to u

unfoldable pub met_first : ℕ → Table → ℕ → ℕ
met_first w s zero = w
met_first w s (suc n) = cond (s.ours n && eqb (s.slot n).end w) 0 w

unfoldable pub met_at : ℕ → Table → ℕ → ℕ
met_at w s zero = met_first w s s.size
met_at w s (suc i) = cond (s.ours i) (s.slot i).end (met_at w s i)

unfoldable pub opens_at : ℕ → ℕ → ℕ → ℕ
opens_at start loss met = cond (eqb start met) start (start + loss)

pub record Fits (l : List ℕ) (first n w : ℕ) (runs : List ℕ) : Type 0 where
  pub part : first + n ≤ length l / slot_bytes
  pub good : first_bad w (slot_at l first) n ≡ 0
  pub some : 0 < w
  pub most : w ≤ most_ticks
  pub room : 2 * n ≤ length runs
  pub one : 0 < length runs

unfoldable pub free_of : List ℕ → Subset
free_of l i = eqb (get_or l i 0) 1

pub record GivenRow (l : List ℕ) (i seen j k : ℕ) : Type 0 where
  pub low : i ≤ k
  pub high : k ≤ length l
  pub given : (y : ℕ) → i ≤ y → y < k → (free_of l y && ltb (seen + (y - i)) j) ≡ true

pub record WholeRow (l : List ℕ) (i seen j k : ℕ) : Type 0 where
  pub row : GivenRow l i seen j k
  pub stop : k < length l → (free_of l k && ltb (seen + (k - i)) j) ≡ false

pub record GridFits (l : List ℕ) (g : Grid) (all : ℕ) (runs : List ℕ) : Type 0 where
  pub some : 0 < length l * g.v
  pub most : length l * g.v ≤ most_ticks
  pub short : g.loss ≤ g.v
  pub free : all ≡ number (free_of l) (length l)
  pub room : 2 * length l ≤ length runs
