-- docs/RULES.md, rule 1, and "Granting slots": which ticks are usable. The only definitions that know of slots. Definitions only.
--
--     Slot               from its start to its end, the end not in it; an end may equal w; its first ticks, the loss, go to the switch
--     Table              slots by number, how many there are, and which of them are the painter's
--     covers a b x       x lies from a to b, b not in it
--     touches w s i      slot i starts where a slot of the painter's ends, also round the end of the wheel
--     opens w s i        the first tick of slot i that isn't lost
--     usable w s         the ticks of the painter's slots that aren't lost, in every turn of the wheel; no slots, no ticks
--     table_of l         the table of a list of slots, all the painter's
--     grid N v loss g    N equal slots of v ticks, slot i from i × v to (i + 1) × v, one loss for all; those in the set g are the painter's
--
-- A slot that fills the wheel starts where it ends itself. Touching is about the slots, not their ticks: one whose ticks are all lost touches, too.
--
-- Differs from document 000, Definition 1, in that a slot may end at w and that no slots is a table.
use Rattle.std.specs.Prelude.{Bool, true, cond, ◌&&◌, List, ℕ, ◌+◌, ◌*◌, ◌%◌, leb, ltb, eqb, length, get_or}
use Rattle.rules.specs.Sums.{Subset, any}

pub record Slot : Type 0 where
  pub start : ℕ
  pub end : ℕ
  pub loss : ℕ

pub record Table : Type 0 where
  pub size : ℕ
  pub slot : ℕ → Slot
  pub ours : Subset

unfoldable pub covers : ℕ → ℕ → Subset
covers a b x = leb a x && ltb x b

-- Rule 1: where the processor doesn't change hands nothing is lost.
unfoldable pub touches : ℕ → Table → ℕ → Bool
touches w s i = any (λ j. s.ours j && eqb ((s.slot j).end % w) ((s.slot i).start % w)) s.size

unfoldable pub opens : ℕ → Table → ℕ → ℕ
opens w s i = cond (touches w s i) (s.slot i).start ((s.slot i).start + (s.slot i).loss)

-- Rule 1: a slot gives the processor from its first tick that isn't lost to its last, in every turn.
unfoldable pub usable : ℕ → Table → Subset
usable w s x = any (λ i. s.ours i && covers (opens w s i) (s.slot i).end (x % w)) s.size

unfoldable pub table_of : List Slot → Table
table_of l =
    record { size = length l; slot = λ i. get_or l i (record { start = 0; end = 0; loss = 0 }); ours = λ _. true }

unfoldable pub grid : ℕ → ℕ → ℕ → Subset → Table
grid N v loss g =
    record { size = N; slot = λ i. record { start = i * v; end = (i + 1) * v; loss = loss }; ours = g }
