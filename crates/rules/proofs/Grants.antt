-- Granting: the laws MoreSlots, GrantExists and GrantUnique.
--
-- More granted slots are more usable ticks, and more usable ticks never hurt. So if all the free slots together aren't firm, no set of them
-- is; and if they are, there is a smallest number of first ones that is, since firm can be decided.
-- In order: deciding firm; the smallest number that passes; more slots, more ticks; the grant. Assumes nothing.
use mathlib.Core.Path.{◌≡◌, refl, sym, ap, ◌∙◌}
use mathlib.Core.Logic.{◌⊎◌, inl, inr, ⊎_elim}
use mathlib.Core.Bool.{Bool, true, false, cond, true≢false, ◌&&◌}
use Prim.Native.Nat.{ℕ, zero, suc, ◌+◌, ◌*◌, ◌%◌, ◌≤◌, ◌<◌}
use native.Mathlib.Nat.{le_refl, le_trans, le-add_right, le_step, le_antisymm, not-suc-le-zero, le_of_suc-le-suc, eq-or-lt_of_le}
use native.Mathlib.Omega.{arith}
use lib.Dec.{leb, ltb, eqb}
use borrow.Author.Tests.{leb-true, le-leb, ltb-true, lt-ltb}
use Rattle.rules.specs.Sums.{Subset, bit, any, number}
use Rattle.rules.specs.Supply.{Task}
use Rattle.rules.specs.Usable.{Slot, covers, touches, opens, usable, grid}
use Rattle.rules.specs.Worst.{Wheel, Worst, Firm, firm_test}
use Rattle.rules.specs.Grant.{first, grid_ticks, Granted, NoChoice}
use Rattle.rules.specs.Laws.{MoreSlots, GrantExists, GrantUnique}
use Rattle.rules.proofs.Sums.{and_left, and_right, and_both, any-mono, number_more, number-longer}
use Rattle.rules.proofs.Worst.{worst-exists, firm-agrees}
use Rattle.rules.proofs.More.{firm-mono}
use Rattle.rules.proofs.Total.{slots-turn}

-- ---- deciding firm

pub firm-or-not : (w : ℕ) (u : Subset) → Wheel w u → (t : Task) → Firm u t ⊎ (Firm u t → ⊥)
firm-or-not w u wheel t =
    let (c, o, worst) = worst-exists w u wheel t in
    go c o worst (firm_test t c) refl
  where
    go : (c o : ℕ) → Worst w u t c o → (b : Bool) → firm_test t c ≡ b → Firm u t ⊎ (Firm u t → ⊥)
    go c o worst true e = inl ((firm-agrees w u t c o worst).0 e)
    go c o worst false e =
        inr (λ firm. let z : true ≡ false = sym ((firm-agrees w u t c o worst).1 firm) ∙ e in let n : ◌≡◌ {A = ℕ} 0 1 = cc in omega arith)

-- ---- the smallest number that passes

pub record Smallest (P : ℕ → Type 0) (n : ℕ) : Type 0 where
  pub place : ℕ
  pub below : place < n
  pub holds : P place
  pub first_one : (i : ℕ) → P i → place ≤ i

smallest-step :
    (P : ℕ → Type 0) (n : ℕ) → Smallest P n ⊎ ((i : ℕ) → i < n → P i → ⊥) → P n ⊎ (P n → ⊥)
    → Smallest P (suc n) ⊎ ((i : ℕ) → i < suc n → P i → ⊥)
smallest-step P n (inl s) d =
    inl (record { place = s.place; below = le_step s.below; holds = s.holds; first_one = s.first_one })
smallest-step P n (inr none) (inl p) =
    inl (record {
      place = n;
      below = le_refl (suc n);
      holds = p;
      first_one = λ i h. let l : ¬ (i < n) = λ l. none i l h in omega arith;
    })
smallest-step P n (inr none) (inr not) =
    inr (λ i l h. ⊎_elim (λ (e : i ≡ n). not (rw e at h)) (λ m. none i m h) (eq-or-lt_of_le (le_of_suc-le-suc l)))

smallest-or-none : (P : ℕ → Type 0) → ((i : ℕ) → P i ⊎ (P i → ⊥)) → (n : ℕ) → Smallest P n ⊎ ((i : ℕ) → i < n → P i → ⊥)
smallest-or-none P dec zero = inr (λ i l h. not-suc-le-zero l)
smallest-or-none P dec (suc n) = smallest-step P n (smallest-or-none P dec n) (dec n)

-- ---- more slots, more ticks

pub grid-turns : (N v loss : ℕ) (g : Subset) → 0 < N * v → Wheel (N * v) (grid_ticks N v loss g)
unfolding grid_ticks
grid-turns N v loss g pos = slots-turn (N * v) (grid N v loss g) pos

-- A slot opens no later with more slots beside it: one more may touch it.
opens-sooner :
    (w n : ℕ) (slot : ℕ → Slot) (f g : Subset) → ((i : ℕ) → i < n → f i ≡ true → g i ≡ true)
    → (i : ℕ) → opens w (record { size = n; slot = slot; ours = g }) i ≤ opens w (record { size = n; slot = slot; ours = f }) i
unfolding opens touches
opens-sooner w n slot f g more i =
    go (meets f) (meets g)
    (any-mono _ _ n (λ j less t. and_both (g j) _ (more j less (and_left (f j) _ t)) (and_right (f j) _ t)))
  where
    meets : Subset → Bool
    meets s = any (λ j. s j && eqb ((slot j).end % w) ((slot i).start % w)) n

    late : Bool → ℕ
    late touching = cond touching (slot i).start ((slot i).start + (slot i).loss)

    go : (few many : Bool) → (few ≡ true → many ≡ true) → late many ≤ late few
    go true true kept = le_refl _
    go false true kept = le-add_right (slot i).start (slot i).loss
    go true false kept = absurd (true≢false (sym (kept refl)))
    go false false kept = le_refl _

covers-sooner : (a b c x : ℕ) → a ≤ b → covers b c x ≡ true → covers a c x ≡ true
unfolding covers
covers-sooner a b c x soon t =
    and_both (leb a x) (ltb x c)
    (le-leb a x (le_trans soon (leb-true b x (and_left (leb b x) (ltb x c) t))))
    (and_right (leb b x) (ltb x c) t)

pub more-slots : MoreSlots
unfolding usable
more-slots w n slot f g more x =
    any-mono _ _ n (λ i less t.
    and_both (g i) _ (more i less (and_left (f i) _ t))
    (covers-sooner _ _ (slot i).end (x % w) (opens-sooner w n slot f g more i) (and_right (f i) _ t)))

pub grid_mono :
    (N v loss : ℕ) (f g : Subset) → ((i : ℕ) → i < N → f i ≡ true → g i ≡ true)
    → (x : ℕ) → grid_ticks N v loss f x ≡ true → grid_ticks N v loss g x ≡ true
unfolding grid_ticks grid
grid_mono N v loss f g h x = more-slots (N * v) N _ f g h x

-- The first j of the free slots are among the first j + more, and all of them where j is their number.
pub first-free : (free : Subset) (j i : ℕ) → first free j i ≡ true → free i ≡ true
unfolding first
first-free free j i t = and_left (free i) _ t

pub first-mono : (free : Subset) (i j : ℕ) → i ≤ j → (x : ℕ) → first free i x ≡ true → first free j x ≡ true
unfolding first
first-mono free i j l x t =
    and_both (free x) _ (and_left (free x) _ t)
    (lt-ltb (number free x) j (omega (arith, ltb-true (number free x) i (and_right (free x) _ t))))

pub first-all : (free : Subset) (N x : ℕ) → x < N → free x ≡ true → first free (number free N) x ≡ true
unfolding first bit
first-all free N x l t =
    let one : bit (free x) ≡ 1 = ap bit t in
    let upto : number free (x + 1) ≤ number free N = number-longer free (x + 1) N (omega arith) in
    and_both (free x) _ t (lt-ltb (number free x) (number free N) (omega (arith, number_more free x)))

-- ---- the grant

-- If all the free slots aren't firm, no choice of them is.
pub no-choice :
    (N v loss : ℕ) (free : Subset) (t : Task) → (Firm (grid_ticks N v loss (first free (number free N))) t → ⊥)
    → NoChoice N v loss free t
unfolding NoChoice
no-choice N v loss free t not g among firm =
    not (firm-mono _ _ t (grid_mono N v loss g (first free (number free N)) (λ i l h. first-all free N i l (among i l h))) firm)

pub grant-exists : GrantExists
grant-exists N v loss free t pos =
    go (smallest-or-none P (λ j. firm-or-not (N * v) _ (grid-turns N v loss (first free j) pos) t) (suc (number free N)))
  where
    P : ℕ → Type 0
    P j = Firm (grid_ticks N v loss (first free j)) t

    go : Smallest P (suc (number free N)) ⊎ ((i : ℕ) → i < suc (number free N) → P i → ⊥)
        → ((j : ℕ) × Granted N v loss free t j) ⊎ NoChoice N v loss free t
    go (inl s) = inl (s.place, record { enough = le_of_suc-le-suc s.below; firm = s.holds; smallest = s.first_one })
    go (inr none) = inr (no-choice N v loss free t (none (number free N) (le_refl _)))

pub grant-unique : GrantUnique
unfolding NoChoice
grant-unique N v loss free t j g = (
  λ i h. le_antisymm (h.smallest j g.firm) (g.smallest i h.firm),
  λ none. none (first free j) (λ i l. first-free free j i) g.firm,
)
