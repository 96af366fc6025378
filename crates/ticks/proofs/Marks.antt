-- A grant's slots are a table in the order of time, and which of them the marks name. Assumes nothing.
use mathlib.Core.Path.{◌≡◌, sym, ap, ◌∙◌}
use mathlib.Core.Logic.{⊎_elim}
use mathlib.Core.Bool.{true, false, cond, ◌&&◌, and-true, and-false}
use mathlib.Core.List.{List}
use Prim.Native.Nat.{ℕ, zero, suc, ◌+◌, ◌-◌, ◌*◌, ◌≤◌, ◌<◌, min}
use native.Mathlib.Nat.{le_refl, eq-or-lt_of_le, add-mul, one-mul, zero-mul, mul-zero, mul-le-mul_right, zero-lt-suc}
use native.Mathlib.Numerals.{add-one}
use native.Mathlib.Omega.{arith}
use lib.Dec.{ltb, eqb}
use lib.ListN.{length, get_or}
use borrow.Author.Tests.{lt-ltb, le-ltb, ltb-true, eq-eqb}
use Rattle.rules.specs.Sums.{Subset, bit, number}
use Rattle.rules.specs.Usable.{Table, grid}
use Rattle.rules.specs.Grant.{first, grid_ticks}
use Rattle.rules.proofs.Sums.{le-or-lt, and_left, and_right, and_both, bit_le, number-none, number_more}
use Rattle.limits.specs.Limits.{most_ticks}
use Rattle.limits.specs.declared.Grid.{Grid}
use Rattle.runs.specs.Runs.{LaidIn}
use Rattle.ticks.specs.Ticks.{Span, Slotted, met_first, met_at, opens_at, free_of, GivenRow, WholeRow, GridFits}
use Rattle.ticks.proofs.Order.{ended, Ordered}
use Rattle.ticks.proofs.Laying.{Lays, Row, Laying, laying-start, laying-more, laying-order, laying-next, laying-skip, laying-end}

pub given-few : (m s j : ℕ) → (eqb m 1 && ltb s j) ≡ true → s < j
given-few m s j e = ltb-true s j (and_right (eqb m 1) _ e)

-- ---- slots in order

next : (a v : ℕ) → (a + 1) * v ≡ a * v + v
next a v = add-mul a 1 v ∙ ap (λ n. a * v + n) (one-mul v)

-- The slots of a grant: the first j free ones are the painter's.
abbrev pub granted : List ℕ → Grid → ℕ → Table
granted l g j = grid (length l) g.v g.loss (first (free_of l) j)

ended_is : (N v loss : ℕ) (s : Subset) (i : ℕ) → ended (grid N v loss s) i ≡ i * v
unfolding ended grid
ended_is N v loss s zero = sym (zero-mul v)
ended_is N v loss s (suc i) = ap (λ n. n * v) (add-one i)

in_order : (N v loss : ℕ) (s : Subset) → 0 < v → loss ≤ v → Ordered (N * v) (grid N v loss s)
unfolding grid
in_order N v loss s some short i less =
    let m : (i + 1) * v ≤ N * v = mul-le-mul_right v (omega arith) in
    record {
      long = omega (arith, next i v);
      inside = m;
      after = rw (ended_is N v loss s i) (le_refl _);
      short = omega (arith, next i v);
    }

pub factors : (N v : ℕ) → 0 < N * v → (0 < N) × (0 < v)
factors N zero p = absurd (omega (arith, mul-zero N))
factors zero (suc v) p = absurd (omega (arith, zero-mul (suc v)))
factors (suc N) (suc v) p = (zero-lt-suc N, zero-lt-suc v)

pub grid-lays : (l : List ℕ) (g : Grid) (all j : ℕ) (runs : List ℕ) → GridFits l g all runs → Lays (length l * g.v) (granted l g j) runs
unfolding grid
grid-lays l g all j runs fits =
    let some = factors (length l) g.v fits.some in
    record {
      order = in_order (length l) g.v g.loss (first (free_of l) j) some.1 fits.short;
      some = fits.some;
      most = fits.most;
      room = fits.room;
      one = omega (arith, some.0, fits.room);
    }

-- ---- the last slot, which meets the first

met-is :
    (N v loss : ℕ) (s : Subset) → 0 < N → met_first (N * v) (grid N v loss s) N ≡ cond (s (N - 1)) 0 (N * v)
unfolding met_first grid
met-is zero v loss s some = absurd (omega arith)
met-is (suc n) v loss s some =
    ap (λ b. cond (s n && b) 0 (suc n * v)) (eq-eqb _ _ (ap (λ k. k * v) (add-one n)))
    ∙ ap (λ b. cond b 0 (suc n * v)) (and-true (s n))
    ∙ (let p : n ≡ suc n - 1 = omega arith in ap (λ k. cond (s k) 0 (suc n * v)) p)

module _ (l : List ℕ) (g : Grid) (all j : ℕ) (some : 0 < length l * g.v) (e : all ≡ number (free_of l) (length l)) where
  abbrev last : ℕ
  last = length l - 1

  long : 0 < length l
  long = (factors (length l) g.v some).0

  upto : number (free_of l) (length l) ≡ number (free_of l) last + bit (free_of l last)
  upto = let p : length l ≡ last + 1 = omega (arith, long) in ap (number (free_of l)) p ∙ number_more (free_of l) last

  pub met-last : eqb (get_or l last 0) 1 ≡ true → all ≤ j → 0 ≡ met_first (length l * g.v) (granted l g j) (length l)
  unfolding first free_of bit
  met-last free enough =
      let one : bit (free_of l last) ≡ 1 = ap bit free in
      sym (met-is (length l) g.v g.loss (first (free_of l) j) long
      ∙ ap (λ b. cond b 0 (length l * g.v)) (and_both (free_of l last) _ free (lt-ltb (number (free_of l) last) j (omega (arith, upto, e)))))

  -- It is granted only where all the free slots are.
  pub met-few : j < all → length l * g.v ≡ met_first (length l * g.v) (granted l g j) (length l)
  unfolding first
  met-few few =
      sym (met-is (length l) g.v g.loss (first (free_of l) j) long
      ∙ ap (λ b. cond (free_of l last && b) 0 (length l * g.v)) (le-ltb (number (free_of l) last) j (omega (arith, upto, e, bit_le (free_of l last))))
      ∙ ap (λ b. cond b 0 (length l * g.v)) (and-false (free_of l last)))

  pub met-taken : eqb (get_or l last 0) 1 ≡ false → length l * g.v ≡ met_first (length l * g.v) (granted l g j) (length l)
  unfolding first free_of
  met-taken taken =
      sym (met-is (length l) g.v g.loss (first (free_of l) j) long
      ∙ ap (λ b. cond (b && ltb (number (free_of l) last) j) 0 (length l * g.v)) taken)

-- ---- granted slots one behind the other

pub row_more :
    (l : List ℕ) (i seen j k : ℕ) → GivenRow l i seen j k → k < length l
    → (eqb (get_or l k 0) 1 && ltb (seen + (k - i)) j) ≡ true → GivenRow l i seen j (k + 1)
unfolding free_of
row_more l i seen j k r less given =
    record {
      low = omega (arith, r.low);
      high = omega arith;
      given = λ y low high. ⊎_elim
          (λ (same : suc y ≡ suc k). let e : y ≡ k = omega arith in rw e given)
          (λ (before : suc y < suc k). r.given y low (omega arith))
          (eq-or-lt_of_le (rw add-one at high));
    }

pub row-stops :
    (l : List ℕ) (i seen j k : ℕ) → GivenRow l i seen j k → (k < length l → (eqb (get_or l k 0) 1 && ltb (seen + (k - i)) j) ≡ false)
    → WholeRow l i seen j k
unfolding free_of
row-stops l i seen j k r stop = record { row = r; stop = stop }

-- So many more are free.
number-row :
    (f : Subset) (i d : ℕ) → ((y : ℕ) → i ≤ y → y < i + d → f y ≡ true) → number f (i + d) ≡ number f i + d
unfolding bit
number-row f i zero free = let p : i + 0 ≡ i = omega arith in rw p (omega arith)
number-row f i (suc d) free =
    let p : i + suc d ≡ i + d + 1 = omega arith in
    let one : bit (f (i + d)) ≡ 1 = ap bit (free (i + d) (omega arith) (omega arith)) in
    let before = number-row f i d (λ y low high. free y low (omega arith)) in
    rw p (omega (arith, number_more f (i + d), before, one))

-- ---- laying slot by slot

-- The slots before slot i are laid out. `seen` of them are granted: all that are free, until j are.
pub record Gridding (l : List ℕ) (g : Grid) (all j : ℕ) (t₀ t : List ℕ) (n at met seen i : ℕ) : Type 0 where
  pub fits : GridFits l g all t₀
  pub few : seen ≤ number (free_of l) i
  pub passed : seen < j → seen ≡ number (free_of l) i
  pub laying : Laying (length l * g.v) (granted l g j) t₀ t n at met i

pub gridding-start :
    (l : List ℕ) (g : Grid) (all j : ℕ) (t : List ℕ) (met : ℕ) → GridFits l g all t
    → met ≡ met_first (length l * g.v) (granted l g j) (length l) → Gridding l g all j t t 0 0 met 0 0
unfolding grid met_at
gridding-start l g all j t met f e =
    record {
      fits = f;
      few = omega arith;
      passed = λ _. sym (number-none (free_of l));
      laying = laying-start _ _ t met (grid-lays l g all j t f) e;
    }

module _
    (l : List ℕ) (g : Grid) (all j : ℕ) (t₀ t : List ℕ) (n at met seen i : ℕ) (f : Gridding l g all j t₀ t n at met seen i) (less : i < length l)
  where
    -- Slot i is granted where its mark is free and fewer than j are granted before it.
    given_is : (granted l g j).ours i ≡ (eqb (get_or l i 0) 1 && ltb seen j)
    unfolding grid first free_of
    given_is = ap (λ b. eqb (get_or l i 0) 1 && b) (⊎_elim
        (λ (done : j ≤ seen). le-ltb (number (free_of l) i) j (omega (arith, f.few)) ∙ sym (le-ltb seen j done))
        (λ (more : seen < j). ap (λ k. ltb k j) (sym (f.passed more)))
        (le-or-lt j seen))

    pub grid-skip : (eqb (get_or l i 0) 1 && ltb seen j) ≡ false → Gridding l g all j t₀ t n at met seen (i + 1)
    unfolding grid free_of bit
    grid-skip not =
        record {
          fits = f.fits;
          few = omega (arith, f.few, number_more (free_of l) i);
          passed = λ more.
              let taken : eqb (get_or l i 0) 1 ≡ false =
              sym (and-true (eqb (get_or l i 0) 1)) ∙ ap (λ b. eqb (get_or l i 0) 1 && b) (sym (lt-ltb seen j more)) ∙ not in
              let none : bit (free_of l i) ≡ 0 = ap bit taken in
              omega (arith, f.passed more, number_more (free_of l) i, none);
          laying = laying-skip _ _ _ _ _ _ _ _ f.laying less (given_is ∙ not);
        }

-- Slot i is granted, and so are those behind it up to slot k, which isn't among them.
pub record Granting (l : List ℕ) (g : Grid) (all j : ℕ) (t₀ t : List ℕ) (n at met seen i k : ℕ) : Type 0 where
  pub inv : Gridding l g all j t₀ t n at met seen i
  pub less : i < length l
  pub given : (eqb (get_or l i 0) 1 && ltb seen j) ≡ true
  pub whole : WholeRow l (i + 1) (seen + 1) j k

module _ (l : List ℕ) (g : Grid) (all j : ℕ) (t₀ t : List ℕ) (n at met seen i k : ℕ) (h : Granting l g all j t₀ t n at met seen i k) where
  abbrev final : ℕ
  final = k - 1

  behind : final + 1 ≡ k
  behind = omega (arith, h.whole.row.low)

  pub row_inside : (i < k) × (k ≤ length l)
  row_inside = omega (arith, h.whole.row.low, h.whole.row.high)

  each : (y : ℕ) → i ≤ y → y < k → (free_of l y && ltb (seen + (y - i)) j) ≡ true
  unfolding free_of
  each y low high =
      ⊎_elim
      (λ (same : i ≡ y). let p : seen + (i - i) ≡ seen = omega arith in rw (← same, p) h.given)
      (λ (after : i < y).
      let p : seen + 1 + (y - (i + 1)) ≡ seen + (y - i) = omega arith in rw p at (h.whole.row.given y (omega arith) high))
      (eq-or-lt_of_le low)

  numbered : (y : ℕ) → i ≤ y → y ≤ k → number (free_of l) y ≡ seen + (y - i)
  numbered y low high =
      let p : y ≡ i + (y - i) = omega arith in
      ap (number (free_of l)) p
      ∙ number-row (free_of l) i (y - i) (λ x from below. and_left (free_of l x) _ (each x from (omega arith)))
      ∙ ap (λ m. m + (y - i)) (sym (h.inv.passed (given-few (get_or l i 0) seen j h.given)))

  row-given : Row (granted l g j) i final
  unfolding grid first
  row-given =
      record {
        some = omega (arith, row_inside.0);
        inside = omega (arith, row_inside.0, row_inside.1);
        mine = λ y low high.
            let within : y < k = omega (arith, behind) in
            ap (λ m. free_of l y && ltb m j) (numbered y low (omega arith)) ∙ each y low within;
        joined = λ y low high. ap (λ m. m * g.v) (add-one y);
      }

  end : k * g.v ≡ (final + 1) * g.v
  end = ap (λ m. m * g.v) (sym behind)

  pub slots-inside : (i * g.v + g.loss ≤ most_ticks) × (k * g.v ≤ most_ticks)
  slots-inside =
      let m : (i + 1) * g.v ≤ length l * g.v = mul-le-mul_right g.v (omega (arith, h.less)) in
      let p : k * g.v ≤ length l * g.v = mul-le-mul_right g.v row_inside.1 in
      omega (arith, next i g.v, h.inv.fits.short, h.inv.fits.most)

  pub grid-more : n + 1 < length t
  unfolding grid
  grid-more = laying-more _ _ _ _ _ _ _ _ h.inv.laying h.less

  module _ (o : ℕ) (opened : o ≡ opens_at (i * g.v) g.loss met) where
    pub grid-order : (at ≤ o) × (o ≤ k * g.v) × (k * g.v ≤ most_ticks)
    unfolding grid
    grid-order =
        let order = laying-order _ _ _ _ _ _ _ _ h.inv.laying h.less o opened in
        let m : (i + 1) * g.v ≤ k * g.v = mul-le-mul_right g.v h.whole.row.low in
        omega (arith, order.0, order.1, m, slots-inside.1)

    laid-row :
        (r : ℕ) (t' : List ℕ) → Slotted t n at o (k * g.v) r t'
        → Gridding l g all j t₀ t' r (k * g.v) (k * g.v) (seen + (k - i)) k
    unfolding grid
    laid-row r t' laid =
        let counted = numbered k (omega (arith, row_inside.0)) (le_refl k) in
        record {
          fits = h.inv.fits;
          few = omega (arith, counted);
          passed = λ _. sym counted;
          laying = rw behind at
              (laying-next _ _ _ _ _ _ _ _ h.inv.laying h.less o opened final row-given t' r (rw end at laid));
        }

    -- Slot k, if there is one, isn't granted.
    pub grid-next :
        (r : ℕ) (t' : List ℕ) → Slotted t n at o (k * g.v) r t' → (p : ℕ) → p ≡ min (k + 1) (length l)
        → Gridding l g all j t₀ t' r (k * g.v) (k * g.v) (seen + (k - i)) p
    unfolding free_of
    grid-next r t' laid p past =
        ⊎_elim
        (λ (last : length l ≤ k).
        let same : p ≡ k = omega (arith, row_inside.1) in rw same (laid-row r t' laid))
        (λ (less : k < length l).
        let one : p ≡ k + 1 = omega arith in
        let same : seen + 1 + (k - (i + 1)) ≡ seen + (k - i) = omega (arith, row_inside.0) in
        rw one (grid-skip _ _ _ _ _ _ _ _ _ _ _ (laid-row r t' laid) less (rw same at (h.whole.stop less))))
        (le-or-lt (length l) k)

pub grid-end :
    (l : List ℕ) (g : Grid) (all j : ℕ) (t₀ t : List ℕ) (n at met seen i : ℕ) → Gridding l g all j t₀ t n at met seen i → length l ≤ i
    → (t' : List ℕ) (r : ℕ) → Span t n at (length l * g.v) 0 r t'
    → LaidIn t₀ t' r (length l * g.v) (grid_ticks (length l) g.v g.loss (first (free_of l) j))
unfolding grid_ticks grid
grid-end l g all j t₀ t n at met seen i f end = laying-end _ _ _ _ _ _ _ _ f.laying end
