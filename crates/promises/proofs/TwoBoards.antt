-- The statement of specs/TwoBoards.antt, by computation; the worst count is P11's. Assumes nothing.
use mathlib.Core.Path.{refl, sym, subst}
use mathlib.Core.List.{List, [], ◌∷◌}
use Prim.Native.Nat.{ℕ, zero, suc}
use lib.ListN.{drop}
use Rattle.rules.specs.Worst.{Worst}
use Rattle.rules.specs.Cases.{Case, Holds, Each, cases}
use Rattle.rules.proofs.Cases.{cases-hold}
use Rattle.limits.specs.Refusal.{◌when◌, ◌otherwise◌}
use Rattle.limits.specs.Limits.{outside, id_refusal, wheel_refusal}
use Rattle.records.specs.Records.{task_record, slot_at, owned, asked_of}
use Rattle.records.specs.Refusals.{sizes, range, slot_refusal, end_before, first_bad, table_refusal, slots_refusal, board_refusal, which_refusal}
use Rattle.promises.specs.Boards.{own_slots}
use Rattle.promises.specs.TwoBoards.{painter, one, TwoBoards}
use Rattle.promises.proofs.Boards.{own-ticks}

-- What holds of a list of cases holds of what is left behind the first n.
later : (n : ℕ) (l : List Case) → Each Holds l → Each Holds (drop n l)
later zero l h = h
later (suc n) [] h = h
later (suc n) (c ∷ l) h = later n l h.1

pub two-boards : TwoBoards
unfolding ◌when◌ ◌otherwise◌ outside id_refusal wheel_refusal slot_at owned sizes range slot_refusal end_before first_bad table_refusal slots_refusal board_refusal which_refusal own_slots
two-boards =
    record {
      twins = record { here = refl; there = refl; asked = refl };
      same = refl;
      clock = (refl, refl);
      chime = (refl, refl);
      places = (refl, refl);
      worst = subst (λ u. Worst 55 u (asked_of (task_record (painter 0 5))) 7 39)
          (λ i x. sym (own-ticks (task_record (painter 0 5)) one x) i)
          (later 14 cases cases-hold).0;
    }
