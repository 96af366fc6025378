-- What the gate lets in is asked, and the reply is what it answers (proofs/Gates.antt). Assumes nothing.
use Rattle.std.proofs.Common.{Ok, Err, FitsSigned, w32, rules}
use Rattle.std.proofs.lemmas.Int.{to_z-of_z}
use Rattle.judge.proofs.Exits.{passed}
use Rattle.judge.proofs.Gates.{enter-asked, measured}
use Rattle.judge.proofs.margin.Goals as goal

pub returns-in_err-enter : goal.returns-in_err-enter
returns-in_err-enter c = rw (passed _ _ c.from_residual.ensures.1) (measured _ _ _ (Err _) c.in_err-enter.ensures)

pub margin-requires : goal.margin-requires
margin-requires c = enter-asked _ _ _ _ c.in_ok-enter.ensures.0 c.in_ok-enter.ensures.1

pub returns : goal.returns
returns c =
    let got = c.in_ok-enter.ensures in
    let fits : FitsSigned w32 c.margin.result = search rules in
    rw (to_z-of_z w32 c.margin.result fits)
    (measured _ _ _ (Ok _) (got.0, rw (got.1, got.2) at c.margin.ensures))
