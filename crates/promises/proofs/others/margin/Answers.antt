-- The same slots give the same margin (proofs/Boards.antt).
use Rattle.std.proofs.Common.{ap}
use Rattle.octets.specs.Octets.{twos}
use Rattle.promises.proofs.Boards.{same-packed}
use Rattle.promises.proofs.others.margin.Goals as goal

pub returns : goal.returns
returns c = same-packed (c.args.boards.twins, c.args.boards.same) _ (λ same. ap twos (same.measured _)) c.fiddlequill_margin.ensures c.fiddlequill_margin-2.ensures
