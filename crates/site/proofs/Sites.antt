-- Each way out of a site gives the number and the reply that docs/RULES.md names. Assumes nothing.
use mathlib.Core.Path.{◌≡◌, refl, sym}
use mathlib.Core.Logic.{◌⊎◌, inl, inr, ⊎_elim}
use mathlib.Core.Bool.{Bool, true, false, not, ◌||◌}
use mathlib.Core.List.{List}
use Prim.Native.Nat.{ℕ, ◌*◌, ◌%◌}
use native.Mathlib.Nat.{zero-lt-suc}
use native.Mathlib.Omega.{arith}
use lib.Dec.{eqb, ltb}
use lib.ListN.{length}
use borrow.Author.Tests.{eqb-true, not-false, ltb-false}
use Rattle.limits.specs.Refusal.{◌when◌, ◌otherwise◌, number}
use Rattle.limits.specs.declared.Refusal.{Refusal}
use Rattle.limits.proofs.Refusals.{when-none, both-none, or-false}
use Rattle.limits.proofs.Checks.{number-some, err_first, err_next, none_next}
use Rattle.records.specs.Records.{task_bytes, slot_bytes, reply_bytes, whole}
use Rattle.site.specs.Site.{site_sizes, site_room, site_refusal, Sited}
use Rattle.walk.specs.Walk.{Roomy, Walked}

-- ---- the ways out

module _ (tasks slots reply : List ℕ) where
  refused : (bad : Refusal) → number bad ≡ site_refusal tasks slots reply → Sited tasks slots reply (number bad) reply
  refused bad e =
      record {
        number = e;
        silent = λ _. refl;
        each = λ none. absurd (number-some bad none);
        rest = λ none. absurd (number-some bad none);
      }

  pub sited-sizes : (bad : Refusal) → number bad ≡ site_sizes tasks slots → Sited tasks slots reply (number bad) reply
  unfolding site_refusal
  sited-sizes bad e = refused bad (err_first bad _ _ e)

  module _ (good : site_sizes tasks slots ≡ 0) where
    pub sited-room : (bad : Refusal) → number bad ≡ site_room tasks reply → Sited tasks slots reply (number bad) reply
    unfolding site_refusal
    sited-room bad e = refused bad (err_next bad _ _ good e)

    pub sited-walked :
        (after : List ℕ) → site_room tasks reply ≡ 0 → Walked tasks slots reply (whole tasks) after → Sited tasks slots reply 0 after
    unfolding site_refusal
    sited-walked after room walked =
        record {
          number = sym (none_next _ _ good room);
          silent = λ low. absurd (⊎_elim (λ one. omega arith) (λ two. omega arith) low);
          each = λ _. walked.each;
          rest = λ _. walked.behind;
        }

-- ---- what no refusal says

sizes-whole : (t s : List ℕ) → site_sizes t s ≡ 0 → length s % slot_bytes ≡ 0
unfolding site_sizes
sizes-whole t s e =
    eqb-true (length s % slot_bytes) 0
    (not-false (eqb (length s % slot_bytes) 0) (or-false (not (eqb (length t % task_bytes) 0)) _ (when-none 1 _ (zero-lt-suc 0) e)).1)

pub roomy : (t s r : List ℕ) → site_sizes t s ≡ 0 → site_room t r ≡ 0 → Roomy t s r
unfolding site_room
roomy t s r sizes room = record { table = sizes-whole t s sizes; room = ltb-false _ _ (when-none 2 _ (zero-lt-suc 1) room) }

pub roomy-none : (t s r : List ℕ) → site_refusal t s r ≡ 0 → Roomy t s r
unfolding site_refusal
roomy-none t s r none = let parts = both-none _ _ none in roomy t s r parts.0 parts.1

-- 1 and 2 are all the refusals of a site.
pub refusal-low : (t s r : List ℕ) → (site_refusal t s r ≡ 0 → ⊥) → (site_refusal t s r ≡ 1) ⊎ (site_refusal t s r ≡ 2)
unfolding site_refusal site_sizes site_room ◌when◌ ◌otherwise◌
refusal-low t s r = go (not (eqb (length t % task_bytes) 0) || not (eqb (length s % slot_bytes) 0)) (ltb (length r) (reply_bytes * whole t))
  where
    go :
        (a b : Bool) → ((1 when a otherwise 2 when b) ≡ 0 → ⊥)
        → ((1 when a otherwise 2 when b) ≡ 1) ⊎ ((1 when a otherwise 2 when b) ≡ 2)
    go true b bad = inl refl
    go false true bad = inr refl
    go false false bad = absurd (bad refl)
