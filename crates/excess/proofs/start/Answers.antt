-- An edge before the wheel's end is itself, and the end is tick 0.
use Rattle.std.proofs.Common.{◌∙◌, arith}
use Rattle.excess.proofs.Walks.{start-itself, start-end}
use Rattle.excess.proofs.start.Goals as goal

pub returns-then-at-zones : goal.returns-then-at-zones
returns-then-at-zones c = (
  c.end-at.ensures ∙ start-itself c.args.zones.edges.now c.args.zones.w c.args.entry (omega (arith, c.end-at.ensures)),
  c.if-at-zones.true,
)

pub returns-else-at-zones : goal.returns-else-at-zones
returns-else-at-zones c =
    (start-end _ _ _ c.args.zones.runs (omega (arith, c.end-at.ensures)), c.args.zones.runs.some)
