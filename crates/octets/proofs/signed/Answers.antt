-- The library's number of these bits is the definition's (proofs/Signs.antt).
use Rattle.std.proofs.Common.{◌∙◌, FitsSigned, w32, rules}
use Rattle.std.proofs.lemmas.Int.{to_z-of_z}
use Rattle.octets.proofs.Signs.{signed_is}
use Rattle.octets.proofs.signed.Goals as goal

pub returns : goal.returns
returns c =
    let fits : FitsSigned w32 c.cast_signed.result = search rules in
    to_z-of_z w32 c.cast_signed.result fits ∙ c.cast_signed.ensures ∙ signed_is c.args.x
