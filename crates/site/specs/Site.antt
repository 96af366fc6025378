-- docs/RULES.md, "A whole site": what a call returns and what the reply holds afterwards, for every byte string. Definitions only.
--
--     site_sizes, site_room            1 and 2
--     site_refusal tasks slots reply   the first of them that applies, 0 for none
--     Sited t l reply n after          a whole call: tasks t, slots l, reply before and after, refusal number n; each record was judged by
--                                      itself, on its own place of the reply (JudgedAt in crates/walk/specs/Walk.antt)
--     joined f n                       n lists in order, one behind the other
--     Joined t l reply after           the reply is the answers of the records in order, then what stood behind them
use Rattle.std.specs.Prelude.{◌≡◌, ◌⊎◌, not, ◌||◌, List, [], ◌++◌, ℕ, zero, suc, ◌*◌, ◌%◌, ◌<◌, eqb, ltb, length, drop}
use Rattle.limits.specs.Refusal.{◌when◌, ◌otherwise◌}
use Rattle.records.specs.Records.{task_bytes, slot_bytes, reply_bytes, whole}
use Rattle.walk.specs.Walk.{Alone, JudgedAt}

unfoldable pub site_sizes : List ℕ → List ℕ → ℕ
site_sizes tasks slots = 1 when (not (eqb (length tasks % task_bytes) 0) || not (eqb (length slots % slot_bytes) 0))

unfoldable pub site_room : List ℕ → List ℕ → ℕ
site_room tasks reply = 2 when ltb (length reply) (reply_bytes * whole tasks)

unfoldable pub site_refusal : List ℕ → List ℕ → List ℕ → ℕ
site_refusal tasks slots reply = site_sizes tasks slots otherwise site_room tasks reply

-- A refusal writes nothing; otherwise each record has its answer, and bytes past the last one stay.
pub record Sited (tasks slots reply : List ℕ) (n : ℕ) (after : List ℕ) : Type 0 where
  pub number : n ≡ site_refusal tasks slots reply
  pub silent : (n ≡ 1) ⊎ (n ≡ 2) → after ≡ reply
  pub each : n ≡ 0 → (i : ℕ) → i < whole tasks → JudgedAt tasks slots reply after i
  pub rest : n ≡ 0 → drop (reply_bytes * whole tasks) after ≡ drop (reply_bytes * whole tasks) reply

unfoldable pub joined : (ℕ → List ℕ) → ℕ → List ℕ
joined f zero = []
joined f (suc n) = joined f n ++ f n

pub record Joined (tasks slots reply after : List ℕ) : Type 0 where
  pub answer : ℕ → List ℕ
  pub judged : (i : ℕ) → i < whole tasks → Alone tasks slots reply i (answer i)
  pub whole : after ≡ joined answer (whole tasks) ++ drop (reply_bytes * whole tasks) reply
