-- The refusals of a grant, and each way out of a whole call. Assumes nothing.
use mathlib.Core.Path.{◌≡◌, refl, ap, ◌∙◌}
use mathlib.Core.Logic.{inl, inr}
use mathlib.Core.Bool.{Bool}
use mathlib.Core.List.{List}
use Prim.Native.Nat.{ℕ, ◌≤◌}
use native.Mathlib.Omega.{arith}
use lib.ListN.{length}
use Rattle.rules.specs.Grant.{Granted, NoChoice}
use Rattle.std.specs.Prelude.{Result, Err, Option, Some, None}
use Rattle.std.specs.Option.{ok_or}
use Rattle.limits.specs.Refusal.{◌when◌, ◌otherwise◌, number, refusal, given}
use Rattle.limits.specs.declared.Refusal.{Refusal}
use Rattle.limits.specs.declared.Refusal.TheVariants.{Loose}
use Rattle.limits.specs.Limits.{grid_refusal, task_refusal, task_of, grid_of, asked, Within}
use Rattle.limits.specs.declared.Task.{Task}
use Rattle.limits.specs.declared.Grid.{Grid}
use Rattle.limits.proofs.Refusals.{when-all, otherwise-all, both-none}
use Rattle.limits.proofs.Checks.{number-some}
use Rattle.limits.proofs.Made.{grid-within, task-within}
use Rattle.ticks.specs.Ticks.{free_of}
use Rattle.grants.specs.Grants.{bad_mark, grant_refusal, Gridded, Searched, Marked, GrantCall}

-- ---- no refusal of the input is 13: each is at most 12

low-when : (n : ℕ) (t : Bool) → n ≤ 12 → (n when t) ≤ 12
low-when n t l = when-all (λ x. x ≤ 12) n t (omega arith) l

low-otherwise : (a b : ℕ) → a ≤ 12 → b ≤ 12 → (a otherwise b) ≤ 12
low-otherwise a b p q = otherwise-all (λ x. x ≤ 12) a b p q

module _ (l : List ℕ) (v loss e D h m k : ℕ) where
  -- ---- the ways out

  low : grant_refusal l v loss e D h m k ≤ 12
  unfolding grant_refusal grid_refusal bad_mark task_refusal
  low = search (arith, low-when, low-otherwise) depth 12

  none-of : grant_refusal l v loss e D h m k ≡ 0 → (grid_refusal (length l) v loss ≡ 0) × (task_refusal e D h m k ≡ 0)
  unfolding grant_refusal
  none-of none =
      let first = both-none _ _ none in
      let rest = both-none _ _ first.1 in
      search arith

  pub call-refused : (r : Refusal) → number r ≡ grant_refusal l v loss e D h m k → GrantCall l v loss e D h m k (number r) 0 l
  call-refused r q =
      let some : number r ≡ 0 → ⊥ = number-some r in
      record {
        refused = λ _. q;
        outcome = λ z. absurd (some (q ∙ z));
        granted = λ z. absurd (some z);
        marked = λ z. absurd (some z);
        none = λ z. absurd (omega (arith, q, low));
        nothing = λ _. refl;
        kept = λ _. refl;
      }

  pub call_err :
      (x : Result ℕ Refusal) (r : Refusal) → x ≡ Err r → number r ≡ grant_refusal l v loss e D h m k
      → GrantCall l v loss e D h m k (refusal x) (given 0 x) l
  call_err x r is q = rw is (call-refused r q)

  -- What goes on had no refusal, and is what was asked for.
  module _ (g : Grid) (t : Task) (none : grant_refusal l v loss e D h m k ≡ 0) (asks : ◌≡◌ {A = Grid × Task} (g, t) (grid_of (length l) v loss, task_of e D h m k)) where
    same-grid : g ≡ grid_of (length l) v loss
    same-grid = ap (λ (x : Grid × Task). x.0) asks

    same-task : t ≡ task_of e D h m k
    same-task = ap (λ (x : Grid × Task). x.1) asks

    pub gridded : Gridded l g
    gridded =
        let grid = grid-within (length l) v loss (none-of none).0 in
        rw same-grid (record { some = grid.ticks; most = grid.most; short = grid.short; number = grid.number })

    pub within : Within t
    within = rw same-task (task-within e D h m k (none-of none).1)

    call_none : NoChoice (length l) g.v g.loss (free_of l) (asked t) → GrantCall l v loss e D h m k 13 0 l
    call_none found =
        record {
          refused = λ bad. absurd (bad none);
          outcome = λ _. inr refl;
          granted = λ z. absurd (omega arith);
          marked = λ z. absurd (omega arith);
          none = λ _. rw (same-grid, same-task) at found;
          nothing = λ _. refl;
          kept = λ _. refl;
        }

    pub call-unfound :
        (x : Result ℕ Refusal) (s : Refusal) (r : Option ℕ) → x ≡ Err s → Err s ≡ ok_or r Loose → Searched l g (asked t) r
        → GrantCall l v loss e D h m k (refusal x) (given 0 x) l
    call-unfound x s None is loose found =
        let last : x ≡ Err Loose = is ∙ loose in rw last (call_none found)
    call-unfound x s (Some j) is loose found = absurd (cc)

    pub call-granted :
        (j : ℕ) (after : List ℕ) → Granted (length l) g.v g.loss (free_of l) (asked t) j → Marked l j after
        → GrantCall l v loss e D h m k 0 j after
    call-granted j after found marks =
        record {
          refused = λ bad. absurd (bad none);
          outcome = λ _. inl refl;
          granted = λ _. rw (same-grid, same-task) at found;
          marked = λ _. marks;
          none = λ z. absurd (omega arith);
          nothing = λ n. absurd (n refl);
          kept = λ n. absurd (n refl);
        }
