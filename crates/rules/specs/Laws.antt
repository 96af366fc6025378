-- What follows from the rules, stated here and shown in proofs/. Definitions only: each name is a statement.
--
--     Straight          between two ticks supply is a straight line
--     StepOverQ         the count from p/q is the count from a half tick of the wheel (rule 5, demand 3)
--     WorstExists       every wheel and task have a worst count and offset (rule 6)
--     WorstUnique       and only one of each
--     LeastExists       every wheel and task have a least margin
--     LeastUnique       and only one
--     LeastTells        it is at least 0 exactly when no strip drops anywhere
--     NeedLowers        n more ticks of need lower it by n
--     MayGrow           with a least margin of g, at least 0, g more ticks of need drop nothing, and one tick more drops a strip
--     FirmAgrees        rule 7's test says firm exactly when no fraction drops more than k − m
--     WorstPlace        rule 8: the worst offset is 0 or half a tick after (a − n × h) modulo w
--     NoZones           rule 8: where no zone starts all strips drop or none does, and the worst offset is 0
--     CountsAdd         strips are counted in two parts
--     MoreNeverHurts    a shorter need, a longer deadline or more usable ticks raise no count
--     Windows           a window is a difference of two running totals
--     WholeTurns        each whole turn adds the same to the running total
--     SlotsTurn         a slot table's usable ticks are a wheel
--     MoreSlots         with more of its slots the painter has every tick it had, losses and touching included
--     GrantExists       a grant exists unless no set of free slots is firm
--     GrantUnique       there is one grant at most, and none beside refusal 13
--
-- What they speak of: half_tick q p, the half tick that stands for p/q; Alike u t, all strips drop at every fraction or none does anywhere;
-- NoHarder u v s t, a task t on the ticks v that asks no more than s on u. The running total at x is `number u x`, the usable ticks below x.
use Rattle.std.specs.Prelude.{◌≡◌, ◌⊎◌, ◌↔◌, true, false, ℕ, ◌+◌, ◌*◌, ◌/◌, ◌%◌, ◌≤◌, ◌<◌, ltb, ℤ, pos, ◌-ℤ◌, ◌≤ℤ◌}
use Rattle.rules.specs.Sums.{Subset, bit, number}
use Rattle.rules.specs.Supply.{Task, supply, dropped, drops, count}
use Rattle.rules.specs.Usable.{Slot, Table, usable}
use Rattle.rules.specs.Worst.{Wheel, Worst, Firm, firm_test}
use Rattle.rules.specs.Least.{Least, grown, Painted}
use Rattle.rules.specs.Zone.{ZoneStart, Candidate}
use Rattle.rules.specs.Grant.{Granted, NoChoice}

-- For r units of s + r after tick a, S(a) counts s times and S(a + 1) counts r times.
abbrev pub Straight : Type 0
Straight =
    (u : Subset) (D a s r : ℕ) → 0 < s
    → supply (s + r) u D ((s + r) * a + r) ≡ s * supply 1 u D a + r * supply 1 u D (a + 1)

-- The half tick that stands for p/q: p/q itself where it is a whole tick, the middle of its tick otherwise.
unfoldable pub half_tick : ℕ → ℕ → ℕ
half_tick q p = 2 * (p / q) + bit (ltb 0 (p % q))

abbrev pub StepOverQ : Type 0
StepOverQ =
    (w : ℕ) (u : Subset) → Wheel w u → (t : Task) (q p : ℕ) → 0 < q
    → count q u t p ≡ count 2 u t (half_tick q p % (2 * w))

abbrev pub WorstExists : Type 0
WorstExists = (w : ℕ) (u : Subset) → Wheel w u → (t : Task) → (c : ℕ) × (o : ℕ) × Worst w u t c o

abbrev pub WorstUnique : Type 0
WorstUnique =
    (w : ℕ) (u : Subset) (t : Task) (c o c' o' : ℕ) → Worst w u t c o → Worst w u t c' o' → (c ≡ c') × (o ≡ o')

abbrev pub LeastExists : Type 0
LeastExists = (w : ℕ) (u : Subset) → Wheel w u → (t : Task) → (l : ℤ) × Least w u t l

abbrev pub LeastUnique : Type 0
LeastUnique = (w : ℕ) (u : Subset) (t : Task) (l l' : ℤ) → Least w u t l → Least w u t l' → l ≡ l'

abbrev pub LeastTells : Type 0
LeastTells = (w : ℕ) (u : Subset) (t : Task) (l : ℤ) → Least w u t l → (pos 0 ≤ℤ l) ↔ Painted u t

abbrev pub NeedLowers : Type 0
NeedLowers = (w : ℕ) (u : Subset) (t : Task) (l : ℤ) → Least w u t l → (n : ℕ) → Least w u (grown n t) (l -ℤ pos n)

abbrev pub MayGrow : Type 0
MayGrow =
    (w : ℕ) (u : Subset) (t : Task) (g : ℕ) → Least w u t (pos g)
    → Painted u (grown g t) × ((p : ℕ) × (p < w) × (dropped 1 u (grown (g + 1) t) p ≡ true))

abbrev pub FirmAgrees : Type 0
FirmAgrees = (w : ℕ) (u : Subset) (t : Task) (c o : ℕ) → Worst w u t c o → (firm_test t c ≡ true) ↔ Firm u t

abbrev pub WorstPlace : Type 0
WorstPlace =
    (w : ℕ) (u : Subset) → Wheel w u → (t : Task) (c o : ℕ) → Worst w u t c o → (o ≡ 0) ⊎ Candidate w u t o

abbrev pub Alike : Subset → Task → Type 0
Alike u t =
    ((q p : ℕ) → 0 < q → dropped q u t p ≡ true) ⊎ ((q p : ℕ) → 0 < q → dropped q u t p ≡ false)

abbrev pub NoZones : Type 0
NoZones =
    (w : ℕ) (u : Subset) → Wheel w u → (t : Task) → ((a : ℕ) → ZoneStart w u t a → ⊥)
    → Alike u t × ((c o : ℕ) → Worst w u t c o → o ≡ 0)

abbrev pub CountsAdd : Type 0
CountsAdd =
    (u : Subset) (t : Task) (q a b p : ℕ)
    → drops q u t (a + b) p ≡ drops q u t a p + drops q u t b (p + a * (q * t.h))

-- Task t on the ticks v asks no more than task s on the ticks u.
pub record NoHarder (u v : Subset) (s t : Task) : Type 0 where
  pub shorter : t.e ≤ s.e
  pub longer : s.D ≤ t.D
  pub period : t.h ≡ s.h
  pub strips : t.k ≡ s.k
  pub kept : (x : ℕ) → u x ≡ true → v x ≡ true

abbrev pub MoreNeverHurts : Type 0
MoreNeverHurts = (u v : Subset) (s t : Task) → NoHarder u v s t → (q p : ℕ) → count q v t p ≤ count q u s p

abbrev pub Windows : Type 0
Windows = (u : Subset) (D a : ℕ) → number u a + supply 1 u D a ≡ number u (a + D)

abbrev pub WholeTurns : Type 0
WholeTurns = (w : ℕ) (u : Subset) → Wheel w u → (n x : ℕ) → number u (x + n * w) ≡ number u x + n * number u w

abbrev pub SlotsTurn : Type 0
SlotsTurn = (w : ℕ) (s : Table) → 0 < w → Wheel w (usable w s)

-- A slot that comes may end a loss, and never makes one.
abbrev pub MoreSlots : Type 0
MoreSlots =
    (w n : ℕ) (slot : ℕ → Slot) (f g : Subset) → ((i : ℕ) → i < n → f i ≡ true → g i ≡ true)
    → (x : ℕ) → usable w (record { size = n; slot = slot; ours = f }) x ≡ true
    → usable w (record { size = n; slot = slot; ours = g }) x ≡ true

abbrev pub GrantExists : Type 0
GrantExists =
    (N v loss : ℕ) (free : Subset) (t : Task) → 0 < N * v
    → ((j : ℕ) × Granted N v loss free t j) ⊎ NoChoice N v loss free t

abbrev pub GrantUnique : Type 0
GrantUnique =
    (N v loss : ℕ) (free : Subset) (t : Task) (j : ℕ) → Granted N v loss free t j
    → ((i : ℕ) → Granted N v loss free t i → i ≡ j) × (NoChoice N v loss free t → ⊥)
