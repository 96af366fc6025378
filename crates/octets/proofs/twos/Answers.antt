-- The library's bits are the definition's (proofs/Signs.antt).
use Rattle.std.proofs.Common.{sym, ◌∙◌}
use Rattle.octets.proofs.Signs.{twos_passed}
use Rattle.octets.proofs.twos.Goals as goal

pub returns : goal.returns
returns c = c.cast_unsigned.ensures ∙ sym (twos_passed _ c.ranges.x)
