-- Where strips are dropped and how near it came, from runs of usable ticks: supply is a straight line between edges, so it crosses the need once
-- and is lowest at an end. Definitions only.
--
--     need_in turned rest e               what whole turns leave of the need e, between 0 and rest + 1
--     Cursor l to i at                    `at` lies in run i, or at its end
--     Way                                 what a walk goes by: the runs on w ticks for the near cursor; for the far one, `rest` ticks on, those up to `stop`
--     Walked y k out u                    a walk that has come to k: two cursors, the supply between them, the lowest and the edges so far, all as the set u has them
--     Walks y k out                       the same for some set
--     Bounds w rest side                  a wheel within its bound, a window of less than a turn, and a whole tick (side 0) or half a tick after it (1)
--     Outset y k out                      a walk from k on meets its bounds and has room: for an edge a run, or an edge a tick
--     Swept y k out k' out'               a walk from k to k', on which the far cursor has come to its end
--     late_room n                         the edges that suffice for what comes of n edges
--     Laying ..                           the ticks where the window of `rest` ticks holds less than the need, laid out in a buffer, and the least that it holds
--     LateIn ..                           the ticks at which strips are dropped, laid out in a buffer, and the least margin
use Rattle.std.specs.Prelude.{◌≡◌, ◌⊎◌, List, ℕ, suc, ◌+◌, ◌-◌, ◌*◌, ◌≤◌, ◌<◌, min, ℤ, length, take}
use Rattle.limits.specs.Limits.{most_ticks, asked}
use Rattle.limits.specs.declared.Task.{Task}
use Rattle.rules.specs.Sums.{Subset, Lowest}
use Rattle.rules.specs.Supply.{supply, dropped}
use Rattle.rules.specs.Least.{Least}
use Rattle.runs.specs.Runs.{edge, Lay, Laid}
use Rattle.late.specs.declared.Course.{Course}
use Rattle.late.specs.declared.Walk.{Walk}
use Rattle.late.specs.Pieces.{short, off}

unfoldable pub need_in : ℕ → ℕ → ℕ → ℕ
need_in turned rest e = min (e - turned) (rest + 1)

-- ---- a walk

-- The run behind i where `at` has come to the end of run i, else i itself.
abbrev pub Passed : ℕ → ℕ → ℕ → ℕ → Type 0
Passed i at end r = ((at ≡ end) × (r ≡ i + 1)) ⊎ ((at ≡ end → ⊥) × (r ≡ i))

pub record Cursor (l : List ℕ) (to i at : ℕ) : Type 0 where
  pub low : edge l to i ≤ at
  pub high : at ≤ edge l to (suc i)

pub record Way : Type 0 where
  pub runs : List ℕ
  pub w : ℕ
  pub part : List ℕ
  pub stop : ℕ
  pub rest : ℕ
  pub need : ℕ
  pub side : ℕ

abbrev pub way : List ℕ → ℕ → List ℕ → ℕ → ℕ → ℕ → ℕ → Way
way runs w part stop rest need side =
    record { runs = runs; w = w; part = part; stop = stop; rest = rest; need = need; side = side }

pub record Walked (y : Way) (k : Walk) (out : List ℕ) (u : Subset) : Type 0 where
  pub ours : Lay y.runs y.w u
  pub theirs : Lay y.part y.stop u
  pub turned : (x : ℕ) → u (k.near.at + x + y.rest) ≡ u (k.far.at + x)
  pub near : Cursor y.runs y.w k.near.run k.near.at
  pub far : Cursor y.part y.stop k.far.run k.far.at
  pub supplied : k.s ≡ supply 1 u y.rest k.near.at
  pub lowest : Lowest (supply 1 u y.rest) k.near.at k.low
  pub laid : Lay (take k.n out) k.near.at (short (supply 1 u y.rest) y.need y.side)

-- The way that the walk's own type says.
abbrev pub way_of : Course → Way
way_of c = way c.runs.edges.now c.runs.w c.part.now c.stop c.rest c.short.need c.short.side

unfoldable pub Walks : Way → Walk → List ℕ → Type 0
Walks y k out = (u : Subset) × Walked y k out u

pub record Bounds (w rest side : ℕ) : Type 0 where
  pub most : w ≤ most_ticks
  pub below : rest < w
  pub half : side ≤ 1

pub record Outset (y : Way) (k : Walk) (out : List ℕ) : Type 0 where
  pub walks : Walks y k out
  pub bounds : Bounds y.w y.rest y.side
  pub level : k.near.at + y.stop ≤ y.w + k.far.at
  pub ours : k.near.run ≤ length y.runs + 1
  pub theirs : k.far.run ≤ length y.part + 1
  pub room :
      (k.n + off k.n k.s y.need + (length y.runs + 1) + (length y.part + 1) ≤ length out + k.near.run + k.far.run)
      ⊎ (k.n + y.w ≤ length out + k.near.at)

pub record Swept (y : Way) (k : Walk) (out : List ℕ) (k' : Walk) (out' : List ℕ) : Type 0 where
  pub long : length out' ≡ length out
  pub level : k'.near.at + k.far.at ≡ k.near.at + k'.far.at
  pub end : k'.far.at ≡ y.stop
  pub few : k'.n + off k'.n k'.s y.need + k.near.run + k.far.run ≤ k.n + off k.n k.s y.need + k'.near.run + k'.far.run
  pub thin : k'.n + k.near.at ≤ k.n + k'.near.at
  pub ours : k'.near.run ≤ length y.runs + 1
  pub theirs : k'.far.run ≤ length y.part + 1
  pub each : (u : Subset) → Walked y k out u → Walked y k' out' u

-- ---- the whole wheel

abbrev pub late_room : ℕ → ℕ
late_room n = 2 * n + 4

pub record Laying (l : List ℕ) (w rest need side : ℕ) (out : List ℕ) (r low : ℕ) (out' : List ℕ) : Type 0 where
  pub long : length out' ≡ length out
  pub few : r ≤ min (late_room (length l)) w
  pub laid : (u : Subset) → Laid l w u → Lay (take r out') w (short (supply 1 u rest) need side)
  pub lowest : (u : Subset) → Laid l w u → Lowest (supply 1 u rest) w low

pub record LateIn (l : List ℕ) (w : ℕ) (t : Task) (side : ℕ) (out : List ℕ) (r : ℕ) (margin : ℤ) (out' : List ℕ) : Type 0 where
  pub long : length out' ≡ length out
  pub room : r ≤ length out'
  pub few : r ≤ min (late_room (length l)) w
  pub laid : (u : Subset) → Laid l w u → Laid (take r out') w (λ a. dropped 2 u (asked t) (2 * a + side))
  pub least : (u : Subset) → Laid l w u → Least w u (asked t) margin
