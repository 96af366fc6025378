-- A refusal is its number in docs/RULES.md, 0 for none. Two operators write the table of refusals as it reads. Definitions only.
--
--     n when test      n where the test passes, 0 where it fails
--     a otherwise b    the first of the two that isn't 0: a is checked before b
--     if_none n a b    a where n is 0, b on a refusal
--     number r         the number of r
--     Checks n a x     x is what a check answers whose number is n: a where n is 0, else the refusal with that number
--     refusal x        the number that x refuses with, 0 where it has a value
--     given d x        the value of x, d beside a refusal
use Rattle.std.specs.Prelude.{◌≡◌, Bool, true, false, ℕ, zero, suc, Result, Ok, Err}
use Rattle.limits.specs.declared.Refusal.{Refusal}
use Rattle.limits.specs.declared.Refusal.TheVariants as refusals

infix 30 ◌when◌
infixr 20 ◌otherwise◌
unfoldable pub ◌when◌ : ℕ → Bool → ℕ
n when true = n
n when false = 0

unfoldable pub ◌otherwise◌ : ℕ → ℕ → ℕ
zero otherwise b = b
suc a otherwise b = suc a

unfoldable pub if_none : {A : Type 0} → ℕ → A → A → A
if_none zero a b = a
if_none (suc n) a b = b

abbrev pub number : Refusal → ℕ
number refusals.Sizes = 1
number refusals.Reply = 2
number refusals.Range = 3
number refusals.Wheel = 4
number refusals.Need = 6
number refusals.Period = 7
number refusals.Deadline = 8
number refusals.Strips = 9
number refusals.Painted = 10
number refusals.Offset = 11
number refusals.Grid = 12
number refusals.Loose = 13
number refusals.Slots = 14
number refusals.Empty = 15
number refusals.Past = 16
number refusals.Early = 17
number refusals.Loss = 18
number refusals.Owner = 19

abbrev pub Checks : {A : Type 0} → ℕ → A → Result A Refusal → Type 0
Checks n a (Ok x) = (n ≡ 0) × (x ≡ a)
Checks n a (Err r) = number r ≡ n

abbrev pub refusal : {A : Type 0} → Result A Refusal → ℕ
refusal (Ok x) = 0
refusal (Err r) = number r

abbrev pub given : {A : Type 0} → A → Result A Refusal → A
given d (Ok x) = x
given d (Err r) = d
