-- The loop's invariant: the entries before i are sums.
use Rattle.std.proofs.Common.{◌≡◌, ℕ, ◌+◌, ◌<◌, get_or}
use Rattle.engine.proofs.pass.add.Given as goal

abbrev pub invariant-loop-i : goal.invariant-loop-i
invariant-loop-i g l =
    (k : ℕ) → k < l.i
    → get_or (g.S.Entry.values l.sum) k 0 ≡ get_or (g.X.Entry.values l.x) k 0 + get_or (g.Y.Entry.values l.y) k 0
