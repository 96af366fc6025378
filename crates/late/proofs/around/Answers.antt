-- Two sweeps, the second with the far cursor from tick 0 on (proofs/Round.antt).
use Rattle.std.proofs.Common.{◌≡◌, sym, List, ℕ, ◌≤◌, ◌<◌, min, length}
use Rattle.std.proofs.Math.Seq.{length-take-le}
use Rattle.rules.specs.Sums.{Subset, number}
use Rattle.runs.specs.Runs.{Laid, Ordered}
use Rattle.runs.proofs.Ordered.{runs_in}
use Rattle.late.specs.Late.{Cursor, late_room}
use Rattle.late.proofs.Round.{Ground, within, outset-first, outset-second, round}
use Rattle.late.proofs.around.Goals as goal

ground :
    {l : List ℕ} {w rest side : ℕ} {out : List ℕ} {j s : ℕ} → Ordered l w
    → (rest < w) × (min (late_room (length l)) w ≤ length out) → side ≤ 1 → Cursor l w j rest
    → (s ≤ rest) × ((u : Subset) → Laid l w u → s ≡ number u rest) → Ground l w rest side out j s
ground runs pre half far below =
    record {
      runs = runs_in runs;
      bounds = record { most = runs.most; below = pre.0; half = half };
      room = pre.1;
      far = far;
      all = below.1;
    }

pub sweep-half-requires : goal.sweep-half-requires
sweep-half-requires c = outset-first _ (ground c.args.runs.runs c.requires c.args.short.half c.find-run.ensures c.below-s.ensures)

pub slice_bounds-over-end : goal.slice_bounds-over-end
slice_bounds-over-end c = sym (length-take-le _ _ (within c.find-run.ensures c.requires.0))

pub sweep-requires : goal.sweep-requires
sweep-requires c =
    outset-second _ (ground c.args.runs.runs c.requires c.args.short.half c.find-run.ensures c.below-s.ensures) c.sweep-half.ensures

pub returns : goal.returns
returns c =
    round _ (ground c.args.runs.runs c.requires c.args.short.half c.find-run.ensures c.below-s.ensures) c.sweep-half.ensures c.sweep.ensures
