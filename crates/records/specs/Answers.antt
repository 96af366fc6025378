-- docs/RULES.md, "Records": what an answer record tells. Definitions only.
--
--     answer_of id x    the answer record of the task with that id: what was found of it, or its refusal, behind which all is zero
use Rattle.std.specs.Prelude.{List, ℕ, pos, Result, Ok, Err}
use Rattle.rules.specs.Sums.{bit}
use Rattle.limits.specs.Refusal.{number}
use Rattle.limits.specs.declared.Refusal.{Refusal}
use Rattle.records.specs.Records.{answer_bytes}
use Rattle.records.specs.declared.answer.Found.{Found}

abbrev pub answer_of : ℕ → Result Found Refusal → List ℕ
answer_of id (Ok f) = answer_bytes id 0 (bit f.firm) f.drops f.offset f.margin
answer_of id (Err r) = answer_bytes id (number r) 0 0 0 (pos 0)
