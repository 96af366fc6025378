-- What the gate lets in is asked, and the reply is what it answers (proofs/Gates.antt). Assumes nothing.
use Rattle.std.proofs.Common.{Ok, Err}
use Rattle.judge.proofs.Exits.{passed}
use Rattle.judge.proofs.Gates.{enter-asked, supplied}
use Rattle.judge.proofs.supply.Goals as goal

pub returns-in_err-enter : goal.returns-in_err-enter
returns-in_err-enter c = rw (passed _ _ c.from_residual.ensures.1) (supplied _ _ _ (Err _) c.in_err-enter.ensures)

pub supply-requires : goal.supply-requires
supply-requires c = enter-asked _ _ _ _ c.in_ok-enter.ensures.0 c.in_ok-enter.ensures.1

pub returns : goal.returns
returns c =
    let got = c.in_ok-enter.ensures in
    supplied _ _ _ (Ok _) (got.0, rw (got.1, got.2) at c.supply.ensures.0)
