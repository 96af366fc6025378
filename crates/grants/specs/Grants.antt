-- docs/RULES.md, "Granting slots": a whole call. Definitions only.
--
--     bad_mark l                        12 for a mark that is neither 0 nor 1
--     grant_refusal l v loss e D h m k  12, then 6 to 10, the first that applies
--     Gridded l g                       what refusal 12 has shown of the marks and the grid
--     asked_for e D h m k               the rules' task
--     Marked l j after                  the first j free slots have mark 2, the others stay
--     first_ticks l g j                 the usable ticks of the first j free slots
--     Tries l g t all                   what a trial is handed: marks, grid and task, and the number of free slots
--     FirmSays l g t j r                r says whether the first j free slots are firm
--     Halving l g t a b                 the first b free slots are firm, and no number below a is
--     Searched l g t r                  r is the grant, or says that no choice of the free slots is firm
--     GrantCall ..                      marks before and after, the numbers handed over, refusal number n and j
use Rattle.std.specs.Prelude.{◌≡◌, ◌⊎◌, Bool, true, false, cond, List, ℕ, ◌*◌, ◌≤◌, ◌<◌, ltb, length, get_or, Option, Some, None}
use Rattle.rules.specs.Sums.{Subset, any, number}
use Rattle.rules.specs.Supply.{Task}
use Rattle.rules.specs.Worst.{Firm}
use Rattle.rules.specs.Grant.{first, grid_ticks, Granted, NoChoice}
use Rattle.limits.specs.Refusal.{◌when◌, ◌otherwise◌}
use Rattle.limits.specs.Limits.{grid_refusal, task_refusal, most_ticks, most_granted, Within}
use Rattle.limits.specs.declared.Task as limits
use Rattle.limits.specs.declared.Grid.{Grid}
use Rattle.ticks.specs.Ticks.{free_of}

unfoldable pub bad_mark : List ℕ → ℕ
bad_mark l = 12 when any (λ i. ltb 1 (get_or l i 0)) (length l)

unfoldable pub grant_refusal : List ℕ → ℕ → ℕ → ℕ → ℕ → ℕ → ℕ → ℕ → ℕ
grant_refusal l v loss e D h m k =
    grid_refusal (length l) v loss otherwise bad_mark l otherwise task_refusal e D h m k

pub record Gridded (l : List ℕ) (g : Grid) : Type 0 where
  pub some : 0 < length l * g.v
  pub most : length l * g.v ≤ most_ticks
  pub short : g.loss ≤ g.v
  pub number : length l ≤ most_granted

abbrev pub asked_for : ℕ → ℕ → ℕ → ℕ → ℕ → Task
asked_for e D h m k = record { e = e; D = D; h = h; m = m; k = k }

pub record Marked (l : List ℕ) (j : ℕ) (after : List ℕ) : Type 0 where
  pub long : length after ≡ length l
  pub each : (i : ℕ) → i < length l → get_or after i 0 ≡ cond (first (free_of l) j i) 2 (get_or l i 0)

abbrev pub first_ticks : List ℕ → Grid → ℕ → Subset
first_ticks l g j = grid_ticks (length l) g.v g.loss (first (free_of l) j)

pub record Tries (l : List ℕ) (g : Grid) (t : limits.Task) (all : ℕ) : Type 0 where
  pub gridded : Gridded l g
  pub within : Within t
  pub free : all ≡ number (free_of l) (length l)

pub record FirmSays (l : List ℕ) (g : Grid) (t : Task) (j : ℕ) (r : Bool) : Type 0 where
  pub yes-firm : r ≡ true → Firm (first_ticks l g j) t
  pub not-firm : r ≡ false → Firm (first_ticks l g j) t → ⊥

pub record Halving (l : List ℕ) (g : Grid) (t : Task) (low high : ℕ) : Type 0 where
  pub order : low ≤ high
  pub enough : high ≤ number (free_of l) (length l)
  pub firm : Firm (first_ticks l g high) t
  pub least : (i : ℕ) → i < low → Firm (first_ticks l g i) t → ⊥

abbrev pub Searched : List ℕ → Grid → Task → Option ℕ → Type 0
Searched l g t (Some j) = Granted (length l) g.v g.loss (free_of l) t j × (j ≤ length l)
Searched l g t None = NoChoice (length l) g.v g.loss (free_of l) t

-- A refusal of the input gives its number. Otherwise the grant is made, or it is refused because no set of free slots is firm.
pub record GrantCall (l : List ℕ) (v loss e D h m k n j : ℕ) (after : List ℕ) : Type 0 where
  pub refused : (grant_refusal l v loss e D h m k ≡ 0 → ⊥) → n ≡ grant_refusal l v loss e D h m k
  pub outcome : grant_refusal l v loss e D h m k ≡ 0 → (n ≡ 0) ⊎ (n ≡ 13)
  pub granted : n ≡ 0 → Granted (length l) v loss (free_of l) (asked_for e D h m k) j
  pub marked : n ≡ 0 → Marked l j after
  pub none : n ≡ 13 → NoChoice (length l) v loss (free_of l) (asked_for e D h m k)
  pub nothing : (n ≡ 0 → ⊥) → j ≡ 0
  pub kept : (n ≡ 0 → ⊥) → after ≡ l
