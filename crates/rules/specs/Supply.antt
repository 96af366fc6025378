-- docs/RULES.md, rules 2 to 5: supply, margin, drop and drop count, over any set of usable ticks. Definitions only.
--
-- Every time is a whole number of units of 1/q of a tick (rule 5): q 1 counts in ticks, q 2 in half ticks. Unit i lies in tick i / q.
--
--     Task                 what the art desk asks: e ticks for each strip within D, a strip every h, at least m of any k painted
--     supply q u D p       the usable units between p and p + D ticks; no usable tick gives 0, a D over the wheel counts every turn
--     margin q u t p       supply minus need of a strip that arrives at p, in units of 1/q, with its sign
--     dropped q u t p      such a strip is dropped; e over D drops every strip
--     drops q u t n p      how many of n strips from p on are dropped
--     count q u t p        how many of the k strips are
--
-- Differs from document 000, equation (6), in the window: D here, the period there.
use Rattle.std.specs.Prelude.{Bool, ℕ, ◌+◌, ◌*◌, ◌/◌, ℤ, pos}
use Rattle.std.proofs.Math.IntN.{sub_ℕ}
use Rattle.std.specs.Int.Signed.{lt_z}
use Rattle.rules.specs.Sums.{Subset, number}

pub record Task : Type 0 where
  pub e : ℕ
  pub D : ℕ
  pub h : ℕ
  pub m : ℕ
  pub k : ℕ

-- Rule 2: the usable time between p and p + D.
unfoldable pub supply : ℕ → Subset → ℕ → ℕ → ℕ
supply q u D p = number (λ i. u ((p + i) / q)) (q * D)

-- Rule 3: how near it came.
unfoldable pub margin : ℕ → Subset → Task → ℕ → ℤ
margin q u t p = sub_ℕ (supply q u t.D p) (q * t.e)

-- Rule 3: dropped when the supply is less than e, so when the margin is below zero. Equal supply paints.
unfoldable pub dropped : ℕ → Subset → Task → ℕ → Bool
dropped q u t p = lt_z (margin q u t p) (pos 0)

-- Rule 4: strips arrive at p, p + h, .., and the dropped ones are counted.
unfoldable pub drops : ℕ → Subset → Task → ℕ → ℕ → ℕ
drops q u t n p = number (λ i. dropped q u t (p + i * (q * t.h))) n

unfoldable pub count : ℕ → Subset → Task → ℕ → ℕ
count q u t p = drops q u t t.k p
