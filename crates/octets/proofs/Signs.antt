-- Signed numbers and their 32 bits. A signed local holds bits, so a law here tells of the number that is read back from them. Assumes nothing.
use mathlib.Core.Path.{◌≡◌, refl, sym, ap, ◌∙◌}
use mathlib.Core.Bool.{Bool, true, false, cond}
use Prim.Native.Nat.{ℕ, suc, ◌-◌, ◌<◌}
use native.Mathlib.Omega.{arith}
use lib.Dec.{ltb}
use lib.IntN.{ℤ, pos, negsuc}
use mir.Syntax.{w32}
use mir.Val.{SFits, sel, to_z, of_z}
use mir.Facts.{to_z-of_z}
use borrow.Author.Tests.{lt-ltb, le-ltb}
use Rattle.octets.specs.Octets.{twos, signed}

twos_is : (x : ℤ) → twos x ≡ of_z w32 x
unfolding twos
twos_is (pos n) = refl
twos_is (negsuc n) = omega arith

-- The bits of a number that is handed on.
pub twos_passed : (x : ℤ) → SFits w32 x → twos x ≡ of_z w32 (to_z w32 (of_z w32 x))
twos_passed x fits = twos_is x ∙ sym (ap (of_z w32) (to_z-of_z fits))

pub signed_is : (x : ℕ) → to_z w32 x ≡ signed x
unfolding signed
signed_is x = go (ltb x 2147483648)
  where
    go : (t : Bool) → sel t (pos x) (negsuc (4294967296 - suc x)) ≡ cond t (pos x) (negsuc (4294967295 - x))
    go true = refl
    go false = ap negsuc (omega arith)

-- ---- there and back

pub twos_small : (x : ℤ) → SFits w32 x → twos x < 4294967296
unfolding twos
twos_small (pos n) fits = let l : n < 2147483648 = fits.sfits in omega arith
twos_small (negsuc n) fits = omega arith

pub signed-twos : (x : ℤ) → SFits w32 x → signed (twos x) ≡ x
unfolding signed twos
signed-twos (pos n) fits =
    ap (λ t. cond t (pos n) (negsuc (4294967295 - n))) (lt-ltb n 2147483648 fits.sfits)
signed-twos (negsuc n) fits =
    let l : n < 2147483648 = fits.sfits in
    ap (λ t. cond t (pos (4294967295 - n)) (negsuc (4294967295 - (4294967295 - n)))) (le-ltb (4294967295 - n) 2147483648 (omega arith))
    ∙ ap negsuc (omega arith)
