-- docs/RULES.md, "Records": numbers in bytes, lowest byte first. Definitions only.
--
--     le2 l at, le4 l at    the number in the two or four bytes of l from place at on; a byte past the end counts 0
--     bytes2 x, bytes4 x    the two or four bytes of x
--     twos z                the 32 bits of a signed number, in two's complement
--     signed x              the signed number of 32 bits
--     over a b              b with a put over its start; what stands behind a stays
use Rattle.std.specs.Prelude.{cond, List, [], ◌∷◌, ◌++◌, ℕ, ◌+◌, ◌-◌, ◌*◌, ◌/◌, ◌%◌, ltb, ℤ, pos, negsuc, length, get_or, drop}

abbrev pub le2 : List ℕ → ℕ → ℕ
le2 l at = get_or l at 0 + 256 * get_or l (at + 1) 0

abbrev pub le4 : List ℕ → ℕ → ℕ
le4 l at = get_or l at 0 + 256 * get_or l (at + 1) 0 + 65536 * get_or l (at + 2) 0 + 16777216 * get_or l (at + 3) 0

abbrev pub bytes2 : ℕ → List ℕ
bytes2 x = x % 256 ∷ x / 256 % 256 ∷ []

abbrev pub bytes4 : ℕ → List ℕ
bytes4 x = x % 256 ∷ x / 256 % 256 ∷ x / 65536 % 256 ∷ x / 16777216 % 256 ∷ []

unfoldable pub twos : ℤ → ℕ
twos (pos n) = n
twos (negsuc n) = 4294967295 - n

unfoldable pub signed : ℕ → ℤ
signed x = cond (ltb x 2147483648) (pos x) (negsuc (4294967295 - x))

unfoldable pub over : List ℕ → List ℕ → List ℕ
over a b = a ++ drop (length a) b
