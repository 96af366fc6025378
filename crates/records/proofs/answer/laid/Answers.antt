-- Each number's bytes are the definition's, the margin's those of its two's complement. Assumes nothing.
use Rattle.std.proofs.Common.{rules, ◌≡◌, ◌∙◌, refl, ap, FitsSigned, w32}
use Rattle.std.proofs.lemmas.Int.{to_z-of_z}
use Rattle.octets.specs.Octets.{twos}
use Rattle.records.proofs.answer.laid.Goals as goal

pub returns : goal.returns
returns c =
    let fits : FitsSigned w32 c.args.margin = search rules in
    let bits : c.twos.result ≡ twos c.args.margin = c.twos.ensures ∙ ap twos (to_z-of_z w32 c.args.margin fits) in
    rw (
      c.to_le_bytes.ensures,
      c.to_le_bytes-2.ensures,
      c.to_le_bytes-3.ensures,
      c.to_le_bytes-4.ensures,
      c.to_le_bytes-5.ensures,
      c.to_le_bytes-6.ensures,
      bits,
    ) refl
