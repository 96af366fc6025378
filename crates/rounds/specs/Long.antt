-- An accepted task of many strips: what its checks have shown of it. Definitions only.
--
--     single t     the task t with one strip, which needn't be painted: its strips are dropped where those of t are
--     singly j     the job j with that task
--     Long t       one strip of t is within the first engine's bounds, and its number of strips within this engine's
--     Ready l j    the same of an accepted job on a slot buffer l
use Rattle.std.specs.Prelude.{List, ℕ, ◌≤◌, ◌<◌}
use Rattle.limits.specs.Limits.{most_in_rounds, task_of, Within}
use Rattle.limits.specs.declared.Task.{Task}
use Rattle.records.specs.Jobs.{Good}
use Rattle.records.specs.declared.Job.{Job}

abbrev pub single : Task → Task
single t = task_of t.e t.d t.h 0 1

abbrev pub singly : Job → Job
singly j =
    record { wheel = j.wheel; owner = j.owner; first = j.first; count = j.count; task = single j.task }

pub record Long (t : Task) : Type 0 where
  pub within : Within (single t)
  pub some : 0 < t.k
  pub strips : t.k ≤ most_in_rounds
  pub painted : t.m ≤ t.k

pub record Ready (l : List ℕ) (j : Job) : Type 0 where
  pub good : Good l (singly j)
  pub long : Long j.task
