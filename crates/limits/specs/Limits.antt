-- docs/RULES.md, refusals 4, 6 to 10, 19 and the size of a grant's wheel in 12, with the bounds they go by. Definitions only.
--
--     most..                       the bounds, each before the refusal that goes by it
--     outside x most               x is 0 or above most
--     id_refusal id                19 for an id that no slot can have as its owner
--     wheel_refusal w              4 for a bad wheel
--     task_refusal e D h m k       6 to 10, the first that applies
--     rounds_refusal m k           9 and 10 of the engine by whole rounds: only the bound of 9 is another
--     grid_refusal N v loss        12 for a bad number or length of slots, or a loss above it
--     task_of e D h m k            the task of these numbers
--     grid_of N v loss             the slots of these numbers
--     asked t                      the rules' task of a task that was made
--     Within t                     what the refusals 6 to 10 have shown of a task that was made
use Rattle.std.specs.Prelude.{Bool, ◌||◌, ℕ, ◌*◌, ◌≤◌, ◌<◌, ltb, eqb}
use Rattle.rules.specs.Supply as rules
use Rattle.limits.specs.Refusal.{◌when◌, ◌otherwise◌}
use Rattle.limits.specs.declared.Task.{Task}
use Rattle.limits.specs.declared.Grid.{Grid}

abbrev pub most_ticks : ℕ
most_ticks = 16384

abbrev pub most_slots : ℕ
most_slots = 512

unfoldable pub outside : ℕ → ℕ → Bool
outside x most = eqb x 0 || ltb most x

abbrev pub most_id : ℕ
most_id = 65535

unfoldable pub id_refusal : ℕ → ℕ
id_refusal id = 19 when ltb most_id id

unfoldable pub wheel_refusal : ℕ → ℕ
wheel_refusal w = 4 when outside w most_ticks

abbrev pub most_need : ℕ
most_need = 1000000

abbrev pub most_period : ℕ
most_period = 1000000

abbrev pub most_strips : ℕ
most_strips = 1024

unfoldable pub task_refusal : ℕ → ℕ → ℕ → ℕ → ℕ → ℕ
task_refusal e D h m k =
    6 when outside e most_need
    otherwise 7 when outside h most_period
    otherwise 8 when outside D h
    otherwise 9 when outside k most_strips
    otherwise 10 when ltb k m

abbrev pub most_in_rounds : ℕ
most_in_rounds = 1000000

unfoldable pub rounds_refusal : ℕ → ℕ → ℕ
rounds_refusal m k = 9 when outside k most_in_rounds otherwise 10 when ltb k m

abbrev pub most_granted : ℕ
most_granted = 64

unfoldable pub grid_refusal : ℕ → ℕ → ℕ → ℕ
grid_refusal N v loss = 12 when (outside N most_granted || eqb v 0 || ltb most_ticks (N * v) || ltb v loss)

abbrev pub task_of : ℕ → ℕ → ℕ → ℕ → ℕ → Task
task_of e D h m k = record { e = e; d = D; h = h; m = m; k = k }

abbrev pub grid_of : ℕ → ℕ → ℕ → Grid
grid_of N v loss = record { n = N; v = v; loss = loss }

abbrev pub asked : Task → rules.Task
asked t = record { e = t.e; D = t.d; h = t.h; m = t.m; k = t.k }

pub record Within (t : Task) : Type 0 where
  pub asks : 0 < t.e
  pub need : t.e ≤ most_need
  pub deadline : t.d ≤ most_period
  pub period : t.h ≤ most_period
  pub some : 0 < t.k
  pub strips : t.k ≤ most_strips
  pub painted : t.m ≤ t.k
