-- Runs at odd places are late.
use Rattle.std.proofs.Common.{arith}
use Rattle.excess.proofs.Walks.{looked}
use Rattle.excess.proofs.late_at.Goals as goal

pub returns : goal.returns
returns c =
    (looked c.args.zones.edges.now c.args.zones.w c.args.p c.requires c.run_at.ensures c.unwrap_or.ensures, omega arith)
