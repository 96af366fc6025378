-- The search by halves: more slots never hurt, so what isn't firm rules out every smaller number. Assumes nothing.
use mathlib.Core.Path.{◌≡◌, ap, ◌∙◌}
use mathlib.Core.Bool.{Bool, true, false, ◌&&◌, and-false}
use mathlib.Core.List.{List}
use Prim.Native.Nat.{ℕ, ◌+◌, ◌*◌, ◌/◌, ◌%◌, ◌≤◌, ◌<◌}
use native.Mathlib.Nat.{le_trans, mul-one, mul-zero}
use native.Mathlib.Omega.{arith}
use lib.ListN.{length}
use borrow.Author.Tests.{lt-ltb, le-ltb}
use Rattle.rules.specs.Sums.{bit, number}
use Rattle.rules.specs.Supply.{Task, supply, dropped, drops, count}
use Rattle.rules.specs.Usable.{usable, grid, covers, opens}
use Rattle.rules.specs.Worst.{Firm}
use Rattle.rules.specs.Grant.{first, grid_ticks, Granted, NoChoice}
use Rattle.rules.proofs.Step.{dropped-ltb}
use Rattle.rules.proofs.Sums.{any_none, number-const, number-le}
use Rattle.rules.proofs.Worst.{firm-all}
use Rattle.rules.proofs.More.{firm-mono}
use Rattle.rules.proofs.Grants.{grid_mono, first-mono, no-choice}
use Rattle.ticks.specs.Ticks.{free_of}
use Rattle.limits.specs.Limits.{most_granted}
use Rattle.limits.specs.declared.Grid.{Grid}
use Rattle.grants.specs.Grants.{Gridded, first_ticks, Halving}

module _ (l : List ℕ) (g : Grid) (t : Task) where
  abbrev FirmAt : ℕ → Type 0
  FirmAt j = Firm (first_ticks l g j) t

  pub more-firm : (i j : ℕ) → i ≤ j → FirmAt i → FirmAt j
  more-firm i j le firm = firm-mono _ _ t (grid_mono (length l) g.v g.loss _ _ (λ x _. first-mono (free_of l) i j le x)) firm

  pub halve-few : (low high : ℕ) → Gridded l g → Halving l g t low high → high ≤ most_granted
  halve-few low high grid h = omega (arith, h.enough, grid.number, number-le (free_of l) (length l))

  pub halve-down : (low high mid : ℕ) → Halving l g t low high → low ≤ mid → mid ≤ high → FirmAt mid → Halving l g t low mid
  halve-down low high mid h a b firm =
      record { order = a; enough = le_trans b h.enough; firm = firm; least = h.least }

  pub halve-up : (low high mid : ℕ) → Halving l g t low high → mid < high → (FirmAt mid → ⊥) → Halving l g t (mid + 1) high
  halve-up low high mid h a not =
      record {
        order = omega arith;
        enough = h.enough;
        firm = h.firm;
        least = λ i less firm. not (more-firm i mid (omega arith) firm);
      }

  pub halve-end : (j : ℕ) → Halving l g t j j → Granted (length l) g.v g.loss (free_of l) t j × (j ≤ length l)
  halve-end j h = (
    record {
      enough = h.enough;
      firm = h.firm;
      smallest = λ i firm. let n : ¬ (i < j) = λ less. h.least i less firm in omega arith;
    },
    le_trans h.enough (number-le (free_of l) (length l)),
  )

  -- ---- m 0, and no slots

  pub grant-none : t.m ≡ 0 → Granted (length l) g.v g.loss (free_of l) t 0
  grant-none zero-m =
      record { enough = omega arith; firm = firm-all _ t zero-m; smallest = λ i firm. omega arith }

  -- No slots, no ticks: every strip is dropped.
  empty-ticks : (x : ℕ) → first_ticks l g 0 x ≡ false
  unfolding grid_ticks usable grid first
  empty-ticks x =
      any_none _ (length l) (λ i less.
      let v = g.v in
      let inside : Bool = covers (opens (length l * v) (grid (length l) v g.loss (first (free_of l) 0)) i) ((i + 1) * v) (x % (length l * v)) in
      ap (λ b. (free_of l i && b) && inside) (le-ltb (number (free_of l) i) 0 (omega arith))
      ∙ ap (λ b. b && inside) (and-false (free_of l i)))

  empty-drops : 0 < t.e → (x : ℕ) → dropped 1 (first_ticks l g 0) t x ≡ true
  unfolding supply bit
  empty-drops need x =
      let none : number (λ i. first_ticks l g 0 ((x + i) / 1)) (1 * t.D) ≡ (1 * t.D) * 0 =
      number-const _ false (1 * t.D) (λ i less. empty-ticks ((x + i) / 1)) in
      let less : number (λ i. first_ticks l g 0 ((x + i) / 1)) (1 * t.D) < 1 * t.e =
      omega (arith, mul-zero (1 * t.D)) in
      dropped-ltb 1 _ t x ∙ lt-ltb _ _ less

  pub nothing-firm : (all : ℕ) → all ≡ number (free_of l) (length l) → (FirmAt all → ⊥) → NoChoice (length l) g.v g.loss (free_of l) t
  nothing-firm all e not =
      no-choice (length l) g.v g.loss (free_of l) t (λ firm. not (more-firm _ all (omega arith) firm))

  -- ---- the start of the search

  module _ (need : 0 < t.e) (some : 0 < t.m) (few : t.m ≤ t.k) where
    no-slots : FirmAt 0 → ⊥
    unfolding Firm count drops bit
    no-slots firm =
        let all : number (λ i. dropped 1 (first_ticks l g 0) t (0 + i * (1 * t.h))) t.k ≡ t.k * 1 =
        number-const _ true t.k (λ i less. empty-drops need (0 + i * (1 * t.h))) in
        omega (arith, firm 1 0 (omega arith), mul-one t.k)

    pub halve-start : (all : ℕ) → all ≡ number (free_of l) (length l) → 0 < all → FirmAt all → Halving l g t 1 all
    halve-start all e any-free firm =
        record {
          order = any-free;
          enough = omega arith;
          firm = firm;
          least = λ i less f. no-slots (more-firm i 0 (omega arith) f);
        }

    pub none_free : (all : ℕ) → all ≡ number (free_of l) (length l) → all ≡ 0 → NoChoice (length l) g.v g.loss (free_of l) t
    none_free all e z = nothing-firm all e (λ firm. no-slots (more-firm all 0 (omega arith) firm))
