-- The test is rule 7's. Assumes nothing.
use Rattle.std.proofs.Common.{FitsSigned, w32, rules, refl}
use Rattle.std.proofs.lemmas.Int.{to_z-of_z}
use Rattle.rules.specs.Worst.{firm_test}
use Rattle.judge.proofs.found.Goals as goal

pub returns : goal.returns
unfolding firm_test
returns c =
    let fits : FitsSigned w32 c.args.p.margin = search rules in
    rw (to_z-of_z w32 c.args.p.margin fits) refl
