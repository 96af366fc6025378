-- What the question says of the other calls, shown in proofs/Laws.antt. Definitions only: each name but the first is a statement.
--
--     known n      one of the numbers that the question knows: 1, 3, 4 and 14 to 19
--     GoodTable    a table is called good exactly when no call gives one of them; 1 is given where the sizes are wrong, the others are the table's
--     SameNumber   where judging, or a question at a half tick, gives one of them, it is this number
use Rattle.std.specs.Prelude.{◌≡◌, ◌↔◌, Bool, true, false, ◌||◌, List, ℕ, eqb}
use Rattle.records.specs.Refusals.{judge_refusal, point_refusal, which_refusal}
use Rattle.records.specs.Troubles.{about_slot}

unfoldable pub known : ℕ → Bool
known n = eqb n 1 || eqb n 3 || eqb n 19 || eqb n 4 || eqb n 14 || about_slot n

abbrev pub GoodTable : Type 0
GoodTable =
    (task slots : List ℕ)
    → (which_refusal task slots ≡ 0)
    ↔ (((reply : List ℕ) → known (judge_refusal task slots reply) ≡ false) × ((x : ℕ) → known (point_refusal task slots x) ≡ false))

abbrev pub SameNumber : Type 0
SameNumber =
    (task slots : List ℕ)
    → ((reply : List ℕ) → known (judge_refusal task slots reply) ≡ true → which_refusal task slots ≡ judge_refusal task slots reply)
    × ((x : ℕ) → known (point_refusal task slots x) ≡ true → which_refusal task slots ≡ point_refusal task slots x)
