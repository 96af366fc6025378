-- docs/RULES.md, "The printed sheet": an answer record as a line of the sheet. Definitions only.
--
--     space, newline                           what stands behind a number
--     longest_four, longest_two, longest_line  how long the numbers in four and in two bytes with what stands behind them get, and a line of them
--     glyph d                                  the character of the digit d
--     digits s n                               n in decimal, s digits at most
--     decimal n                                n in decimal, no zero in front; 0 is "0"
--     field n stop                             n in decimal and the character behind it
--     line_of l                                the line of the answer record l: id, refusal, firm, worst count, worst offset
--     refused_line                             the line of what isn't a whole record, "- 1 0 0 0", refused_long characters
--     placed at a b                            b with a put over its part that starts at place `at`; what stands before and behind stays
--     fitting n t out at                       t where n bytes fit into `out` from place `at` on, else nothing
--     line_for l out at                        the line that goes into `out` at `at`: none if l isn't an answer record or the longest line wouldn't fit
--     Put t b at n a                           t was put into b at place `at`: a is what b is then, n the place behind t
use Rattle.std.specs.Prelude.{◌≡◌, cond, List, [], ◌∷◌, ◌++◌, ℕ, zero, suc, ◌+◌, ◌*◌, ◌/◌, ◌%◌, eqb, leb, ltb, length, take, drop}
use Rattle.octets.specs.Octets.{le2, le4, over}
use Rattle.records.specs.Records.{reply_bytes}

-- Ten digits for four bytes, five for two, and the character behind each.
abbrev pub longest_four : ℕ
longest_four = 11

abbrev pub longest_two : ℕ
longest_two = 6

abbrev pub longest_line : ℕ
longest_line = 3 * longest_four + 2 * longest_two

abbrev pub refused_long : ℕ
refused_long = 10

abbrev pub glyph : ℕ → ℕ
glyph d = 48 + d

unfoldable pub digits : ℕ → ℕ → List ℕ
digits zero n = []
digits (suc s) n = cond (ltb n 10) (glyph n ∷ []) (digits s (n / 10) ++ (glyph (n % 10) ∷ []))

-- A number has fewer digits than one more than itself.
unfoldable pub decimal : ℕ → List ℕ
decimal n = digits (suc n) n

abbrev pub field : ℕ → ℕ → List ℕ
field n stop = decimal n ++ (stop ∷ [])

abbrev pub space : ℕ
space = 32

abbrev pub newline : ℕ
newline = 10

unfoldable pub line_of : List ℕ → List ℕ
line_of l =
    field (le4 l 0) space
    ++ field (le2 l 4) space
    ++ field (le2 l 6) space
    ++ field (le4 l 8) space
    ++ field (le4 l 12) newline

unfoldable pub refused_line : List ℕ
refused_line = 45 ∷ space ∷ glyph 1 ∷ space ∷ glyph 0 ∷ space ∷ glyph 0 ∷ space ∷ glyph 0 ∷ newline ∷ []

unfoldable pub placed : ℕ → List ℕ → List ℕ → List ℕ
placed at a b = take at b ++ over a (drop at b)

unfoldable pub fitting : ℕ → List ℕ → List ℕ → ℕ → List ℕ
fitting n t out at = cond (leb (at + n) (length out)) t []

unfoldable pub line_for : List ℕ → List ℕ → ℕ → List ℕ
line_for l out at = cond (eqb (length l) reply_bytes) (fitting longest_line (line_of l) out at) []

pub record Put (text before : List ℕ) (at end : ℕ) (after : List ℕ) : Type 0 where
  pub behind : end ≡ at + length text
  pub bytes : after ≡ placed at text before
