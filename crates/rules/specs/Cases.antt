-- docs/RULES.md, "Cases by hand": P1 to P22 as one list under one statement. Definitions only.
--
--     Case           a case by hand, of one of six kinds
--     Holds          what a case claims, by the rules
--     Each P l       P holds of every entry of l
--     cases          P1 to P22, in the paper's order; from P15 on with losses
--     CasesHold      the one statement
use Rattle.std.specs.Prelude.{◌≡◌, ◌↔◌, Bool, true, false, not, List, [], ◌∷◌, ℕ, eqb, ℤ, pos, negsuc}
use Rattle.rules.specs.Sums.{Subset}
use Rattle.rules.specs.Supply.{Task, count}
use Rattle.rules.specs.Usable.{Slot, usable, table_of}
use Rattle.rules.specs.Worst.{Worst, Firm}
use Rattle.rules.specs.Least.{Least}
use Rattle.rules.specs.Grant.{Granted, NoChoice}

-- The wheel w and its slots, or the slots N, v, their loss and the free ones; the task; then what is claimed.
pub data Case : Type 0 where
  from : (w : ℕ) → List Slot → Task → (half-tick drops : ℕ) → Case
  worst : (w : ℕ) → List Slot → Task → (drops half-tick : ℕ) → Case
  verdict : (w : ℕ) → List Slot → Task → (drops half-tick : ℕ) → (firm : Bool) → Case
  margin : (w : ℕ) → List Slot → Task → (least : ℤ) → Case
  grant : (N v loss : ℕ) → (free : Subset) → Task → (j : ℕ) → Case
  refusal13 : (N v loss : ℕ) → (free : Subset) → Task → Case

abbrev pub Holds : Case → Type 0
Holds (from w s t o c) = count 2 (usable w (table_of s)) t o ≡ c
Holds (worst w s t c o) = Worst w (usable w (table_of s)) t c o
Holds (verdict w s t c o b) =
    Worst w (usable w (table_of s)) t c o × ((b ≡ true) ↔ Firm (usable w (table_of s)) t)
Holds (margin w s t l) = Least w (usable w (table_of s)) t l
Holds (grant N v loss free t j) = Granted N v loss free t j
Holds (refusal13 N v loss free t) = NoChoice N v loss free t

abbrev pub Each : (Case → Type 0) → List Case → Type 0
Each P [] = Unit {0}
Each P (c ∷ cs) = P c × Each P cs

abbrev late : ℕ → ℕ → ℕ → Slot
late a b loss = record { start = a; end = b; loss = loss }

abbrev slot : ℕ → ℕ → Slot
slot a b = late a b 0

abbrev task : ℕ → ℕ → ℕ → ℕ → ℕ → Task
task e D h m k = record { e = e; D = D; h = h; m = m; k = k }

-- The paper's T, its slot, its wheel, with e and m to be filled in.
abbrev T : ℕ → ℕ → Task
T e m = task e 5 14 m 2

abbrev short : List Slot
short = slot 0 8 ∷ []

abbrev pub cases : List Case
cases =
    from 10 short (T 4 1) 8 1
    ∷ from 10 short (T 4 1) 9 2
    ∷ from 10 short (T 4 1) 10 1
    ∷ from 10 short (T 4 1) 19 0
    ∷ verdict 10 short (T 4 1) 2 9 false
    ∷ margin 10 short (T 4 1) (negsuc 0)
    ∷ verdict 10 short (T 4 0) 2 9 true
    ∷ worst 10 short (T 3 1) 0 0
    ∷ margin 10 short (T 3 1) (pos 0)
    ∷ worst 10 short (T 6 1) 2 0
    ∷ margin 10 short (T 6 1) (negsuc 2)
    ∷ verdict 10 (slot 0 4 ∷ slot 4 8 ∷ []) (T 4 1) 2 9 false
    ∷ worst 10 [] (task 1 5 5 1 3) 3 0
    ∷ margin 10 [] (task 1 5 5 1 3) (negsuc 0)
    ∷ worst 55 (slot 11 21 ∷ slot 33 43 ∷ []) (task 27 70 70 3 10) 7 39
    ∷ margin 55 (slot 11 21 ∷ slot 33 43 ∷ []) (task 27 70 70 3 10) (negsuc 6)
    ∷ grant 5 2 0 (λ _. true) (T 4 1) 5
    ∷ grant 5 2 0 (λ _. true) (T 3 1) 4
    ∷ refusal13 5 2 0 (λ i. not (eqb i 4)) (T 4 1)
    ∷ worst 10 (late 0 8 1 ∷ []) (T 3 1) 1 3
    ∷ margin 10 (late 0 8 1 ∷ []) (T 3 1) (negsuc 0)
    ∷ verdict 10 (slot 0 4 ∷ late 4 8 4 ∷ []) (T 4 1) 2 9 false
    ∷ worst 10 (late 0 4 4 ∷ late 4 8 4 ∷ []) (T 4 1) 2 1
    ∷ margin 10 (late 0 4 4 ∷ late 4 8 4 ∷ []) (T 4 1) (negsuc 3)
    ∷ worst 10 (late 0 4 3 ∷ slot 6 10 ∷ []) (T 3 1) 0 0
    ∷ margin 10 (late 0 4 3 ∷ slot 6 10 ∷ []) (T 3 1) (pos 0)
    ∷ worst 10 (late 0 10 10 ∷ []) (T 5 1) 0 0
    ∷ margin 10 (late 0 10 10 ∷ []) (T 5 1) (pos 0)
    ∷ grant 5 2 2 (λ _. true) (T 4 1) 5
    ∷ grant 5 2 2 (λ _. true) (T 3 1) 5
    ∷ refusal13 5 2 2 (λ i. not (eqb i 4)) (T 3 1)
    ∷ []

abbrev pub CasesHold : Type 0
CasesHold = Each Holds cases
