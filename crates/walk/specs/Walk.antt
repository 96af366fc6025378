-- How a site is walked through, record by record. Definitions only.
--
--     place l i                      the bytes of answer i in a reply l
--     Alone t l reply i a            record i, judged by itself on its own place of the reply, leaves a there
--     JudgedAt t l reply after i     so it was judged, and its place holds that afterwards
--     Roomy t l reply                whole slot records, and room for all answers
--     Fitting t n                    no record of t that judging may accept has a wheel of more than n ticks
--     Placed t l reply i after       record i was judged, and nothing but its own place was touched
--     Walked t l reply i after       the first i records were judged, each on its own place, and behind them nothing was touched
use Rattle.std.specs.Prelude.{◌≡◌, List, ℕ, ◌+◌, ◌*◌, ◌%◌, ◌≤◌, ◌<◌, length, take, drop}
use Rattle.limits.specs.Limits.{most_ticks}
use Rattle.records.specs.Records.{slot_bytes, reply_bytes, task_record, whole, part}
use Rattle.records.specs.Refusals.{judge_refusal}
use Rattle.judge.specs.Judge.{Judged}

unfoldable pub place : List ℕ → ℕ → List ℕ
place l i = take reply_bytes (drop (reply_bytes * i) l)

-- Whatever judging promises of a record and its reply holds of record i and its place.
abbrev pub Alone : List ℕ → List ℕ → List ℕ → ℕ → List ℕ → Type 0
Alone tasks slots reply i answer =
    Judged (part tasks i) slots (place reply i) (judge_refusal (part tasks i) slots (place reply i)) answer

abbrev pub JudgedAt : List ℕ → List ℕ → List ℕ → List ℕ → ℕ → Type 0
JudgedAt tasks slots reply after i = Alone tasks slots reply i (place after i)

pub record Roomy (tasks slots reply : List ℕ) : Type 0 where
  pub table : length slots % slot_bytes ≡ 0
  pub room : reply_bytes * whole tasks ≤ length reply

unfoldable pub Fitting : List ℕ → ℕ → Type 0
Fitting tasks n = (i : ℕ) → i < whole tasks → (task_record (part tasks i)).w ≤ most_ticks → (task_record (part tasks i)).w ≤ n

pub record Placed (tasks slots reply : List ℕ) (i : ℕ) (after : List ℕ) : Type 0 where
  pub long : length after ≡ length reply
  pub judged : JudgedAt tasks slots reply after i
  pub before : take (reply_bytes * i) after ≡ take (reply_bytes * i) reply
  pub behind : drop (reply_bytes * (i + 1)) after ≡ drop (reply_bytes * (i + 1)) reply

pub record Walked (tasks slots reply : List ℕ) (i : ℕ) (after : List ℕ) : Type 0 where
  pub long : length after ≡ length reply
  pub each : (j : ℕ) → j < i → JudgedAt tasks slots reply after j
  pub behind : drop (reply_bytes * i) after ≡ drop (reply_bytes * i) reply
