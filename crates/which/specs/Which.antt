-- docs/RULES.md, "Which slot": what the question answers, for every byte string. Definitions only.
--
--     Which task slots t p    t is the number by the order that every call has; beside 15 to 18 the place p is the first bad slot's, else 0
use Rattle.std.specs.Prelude.{List, ℕ}
use Rattle.records.specs.Records.{task_record}
use Rattle.records.specs.Refusals.{which_refusal}
use Rattle.records.specs.Troubles.{TroubleOf}

abbrev pub Which : List ℕ → List ℕ → ℕ → ℕ → Type 0
Which task slots t p = TroubleOf (task_record task) slots (which_refusal task slots) t p
