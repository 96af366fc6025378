-- What was found for an accepted job and written over the reply is the answer that docs/RULES.md names, by either engine. Assumes nothing.
use mathlib.Core.Path.{◌≡◌, subst, ◌∙◌}
use mathlib.Core.List.{List}
use Prim.Native.Nat.{ℕ}
use lib.IntN.{ℤ}
use Rattle.rules.specs.Sums.{bit}
use Rattle.rules.specs.Worst.{Worst, firm_test}
use Rattle.rules.specs.Least.{Least}
use Rattle.rules.proofs.Worst.{firm-agrees}
use Rattle.octets.specs.Octets.{over}
use Rattle.limits.specs.Limits.{asked}
use Rattle.records.specs.Records.{task_record, board_of, ticks_of, asked_of, answer_bytes}
use Rattle.records.specs.Refusals.{job_of}
use Rattle.records.specs.Jobs.{job_ticks}
use Rattle.records.specs.declared.TaskRecord.{TaskRecord}
use Rattle.records.specs.declared.Job.{Job}
use Rattle.judge.specs.Judge.{Answered}

pub answered-as :
    (task slots reply : List ℕ) (r : TaskRecord) (j : Job) (c o : ℕ) (g : ℤ) (after : List ℕ)
    → r ≡ task_record task → j ≡ job_of (task_record task)
    → Worst j.wheel.w (job_ticks slots j) (asked j.task) c o × Least j.wheel.w (job_ticks slots j) (asked j.task) g
    → after ≡ over (answer_bytes r.id 0 (bit (firm_test (asked j.task) c)) c o g) reply → Answered task slots reply after
unfolding ticks_of board_of
answered-as task slots reply r j c o g after e ours (worst, least) written =
    let here : Worst (task_record task).w (ticks_of (task_record task) slots) (asked_of (task_record task)) c o =
    subst (λ (x : Job). Worst x.wheel.w (job_ticks slots x) (asked x.task) c o) ours worst in
    record {
      drops = c;
      offset = o;
      firm = firm_test (asked_of (task_record task)) c;
      margin = g;
      worst = here;
      said = firm-agrees _ _ _ c o here;
      least = subst (λ (x : Job). Least x.wheel.w (job_ticks slots x) (asked x.task) g) ours least;
      bytes = written ∙ (λ i. over (answer_bytes (e i).id 0 (bit (firm_test (asked (ours i).task) c)) c o g) reply);
    }
