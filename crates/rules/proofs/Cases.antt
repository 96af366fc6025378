-- P1 to P22 of docs/RULES.md: the statement CasesHold.
--
-- Each kind of case has a test that computes over the half ticks of the wheel, and a law that turns the passed test into the claim over all
-- fractions. The checker then runs the tests of the whole list at once.
-- In order: tests one after the other; counts by a table of drops; firm by half ticks; worst by half ticks; the least margin by ticks; a test for each kind; the list. Assumes nothing.
use mathlib.Core.Path.{◌≡◌, refl, sym, ap, ◌∙◌}
use mathlib.Core.Bool.{Bool, true, false, not, ◌&&◌, beq, true≢false}
use mathlib.Core.List.{List, [], ◌∷◌}
use Prim.Native.Nat.{ℕ, zero, suc, ◌+◌, ◌-◌, ◌*◌, ◌%◌, ◌<◌}
use native.Mathlib.Nat.{add-zero, zero-add, mod-lt, not-suc-le-zero, le_of_suc-le-suc}
use lib.ListN.{get_or}
use native.Mathlib.Omega.{arith}
use borrow.Author.Tests.{leb-true, ltb-true, eqb-true, le-leb, not-true}
use lib.Dec.{leb, ltb, eqb}
use lib.IntN.{ℤ, pos, negsuc, sub_ℕ}
use Rattle.rules.specs.Sums.{Subset, bit, sum, number, any}
use Rattle.rules.specs.Supply.{Task, supply, dropped, drops, count}
use Rattle.rules.specs.Supply as rules
use Rattle.rules.specs.Usable.{covers, touches, opens, usable, table_of, grid}
use Rattle.rules.specs.Worst.{Wheel, Worst, Firm, firm_test}
use Rattle.rules.specs.Least.{Least}
use Rattle.rules.specs.Grant.{first, grid_ticks}
use Rattle.rules.specs.Laws.{half_tick}
use Rattle.rules.specs.Cases.{Case, from, worst, verdict, margin, grant, refusal13, Holds, Each, cases, CasesHold}
use Rattle.rules.proofs.Sums.{number-cong, and_left, and_right, all, all-at, all-intro}
use Rattle.rules.proofs.Step.{step-over-q, dropped-mod}
use Rattle.rules.proofs.Worst.{worst-of-largest, firm-agrees}
use Rattle.rules.proofs.Least.{lowest, least-lowest}
use Rattle.rules.proofs.Total.{slots-turn}
use Rattle.rules.proofs.Grants.{grid-turns, no-choice}

-- ---- tests one after the other

-- `&&`, shut, so that its sides can be read off.
infixl 30 ◌and◌
◌and◌ : Bool → Bool → Bool
a and b = a && b

left : (a b : Bool) → (a and b) ≡ true → a ≡ true
unfolding ◌and◌
left a b e = and_left a b e

right : (a b : Bool) → (a and b) ≡ true → b ≡ true
unfolding ◌and◌
right a b e = and_right a b e

-- ---- counts by a table of drops

-- f i, f (i + 1), .. , n of them
tab : Subset → ℕ → ℕ → List Bool
tab f i zero = []
tab f i (suc n) = f i ∷ tab f (suc i) n

tab-at : (f : Subset) (n i j : ℕ) → j < n → get_or (tab f i n) j false ≡ f (i + j)
unfolding tab
tab-at f zero i j l = absurd (not-suc-le-zero l)
tab-at f (suc n) i zero l = ap f (sym (add-zero i))
tab-at f (suc n) i (suc j) l = tab-at f n (suc i) j (le_of_suc-le-suc l) ∙ ap f (omega arith)

-- The drops of the wheel's half ticks, each worked out once.
table : ℕ → Subset → Task → List Bool
table w u t = tab (dropped 2 u t) 0 (2 * w)

counted : ℕ → List Bool → Task → ℕ → ℕ
counted w d t x = number (λ i. get_or d ((x + i * (2 * t.h)) % (2 * w)) false) t.k

counted-right : (w : ℕ) (u : Subset) → Wheel w u → (t : Task) (x : ℕ) → counted w (table w u t) t x ≡ count 2 u t x
unfolding counted table count drops
counted-right w u wheel t x =
    number-cong _ _ t.k (λ i l.
    let y : ℕ = x + i * (2 * t.h) in
    let inside : y % (2 * w) < 2 * w = mod-lt y (omega (arith, wheel.some)) in
    tab-at (dropped 2 u t) (2 * w) 0 (y % (2 * w)) inside
    ∙ ap (dropped 2 u t) (zero-add (y % (2 * w)))
    ∙ sym (dropped-mod w u wheel 2 t y (omega arith)))

-- ---- firm by half ticks

firm? : ℕ → List Bool → Task → Bool
firm? w d t = all (λ x. leb (counted w d t x) (t.k - t.m)) (2 * w)

firm-yes : (w : ℕ) (u : Subset) → Wheel w u → (t : Task) → firm? w (table w u t) t ≡ true → Firm u t
unfolding firm? Firm
firm-yes w u wheel t e q p q+ =
    let x : ℕ = half_tick q p % (2 * w) in
    let inside : x < 2 * w = mod-lt (half_tick q p) (omega (arith, wheel.some)) in
    rw (step-over-q w u wheel t q p q+, ← counted-right w u wheel t x) (leb-true _ _ (all-at _ (2 * w) x e inside))

firm-no : (w : ℕ) (u : Subset) → Wheel w u → (t : Task) → firm? w (table w u t) t ≡ false → Firm u t → ⊥
unfolding firm? Firm
firm-no w u wheel t e firm =
    let z : true ≡ false =
    sym (all-intro _ (2 * w) (λ i l. le-leb _ _ (rw (← counted-right w u wheel t i) at (firm 2 i (omega arith))))) ∙ e in
    let n : ◌≡◌ {A = ℕ} 0 1 = cc in
    omega arith

-- ---- worst by half ticks

worst? : ℕ → List Bool → Task → ℕ → ℕ → Bool
worst? w d t c o =
    all (λ x. leb (counted w d t x) c) (2 * w)
    and all (λ x. ltb (counted w d t x) c) o
    and eqb (counted w d t o) c
    and ltb o (2 * w)

worst-yes : (w : ℕ) (u : Subset) → Wheel w u → (t : Task) (c o : ℕ) → worst? w (table w u t) t c o ≡ true → Worst w u t c o
unfolding worst?
worst-yes w u wheel t c o e =
    let f : (x : ℕ) → counted w (table w u t) t x ≡ count 2 u t x = counted-right w u wheel t in
    worst-of-largest w u wheel t
    (record {
      bound = λ i l. rw (← f i) (leb-true _ _ (all-at _ (2 * w) i (left _ _ (left _ _ (left _ _ e))) l));
      inside = ltb-true o (2 * w) (right _ _ e);
      hit = sym (f o) ∙ eqb-true _ _ (right _ _ (left _ _ e));
      least = λ i l. rw (← f i) (ltb-true _ _ (all-at _ o i (right _ _ (left _ _ (left _ _ e))) l));
    })

-- ---- the least margin by ticks

same : ℤ → ℤ → Bool
same (pos a) (pos b) = eqb a b
same (pos a) (negsuc b) = false
same (negsuc a) (pos b) = false
same (negsuc a) (negsuc b) = eqb a b

same-right : (a b : ℤ) → same a b ≡ true → a ≡ b
unfolding same
same-right (pos a) (pos b) e = ap pos (eqb-true a b e)
same-right (pos a) (negsuc b) e = absurd (true≢false (sym e))
same-right (negsuc a) (pos b) e = absurd (true≢false (sym e))
same-right (negsuc a) (negsuc b) e = ap negsuc (eqb-true a b e)

least? : ℕ → Subset → Task → ℤ → Bool
least? w u t l = same (sub_ℕ (lowest (supply 1 u t.D) w) t.e) l

least-yes : (w : ℕ) (u : Subset) → Wheel w u → (t : Task) (l : ℤ) → least? w u t l ≡ true → Least w u t l
unfolding least?
least-yes w u wheel t l e = rw (← same-right _ _ e) (least-lowest w u wheel t)

-- ---- a test for each kind

grid? : ℕ → ℕ → ℕ → Subset → Task → Bool
grid? N v loss g t = firm? (N * v) (table (N * v) (grid_ticks N v loss g) t) t

passes : Case → Bool
passes (from w s t o c) = eqb (count 2 (usable w (table_of s)) t o) c
passes (worst w s t c o) = ltb 0 w and worst? w (table w (usable w (table_of s)) t) t c o
passes (verdict w s t c o b) = ltb 0 w and worst? w (table w (usable w (table_of s)) t) t c o and beq b (firm_test t c)
passes (margin w s t l) = ltb 0 w and least? w (usable w (table_of s)) t l
passes (grant N v loss free t j) =
    ltb 0 (N * v)
    and leb j (number free N)
    and grid? N v loss (first free j) t
    and all (λ i. not (grid? N v loss (first free i) t)) j
passes (refusal13 N v loss free t) = ltb 0 (N * v) and not (grid? N v loss (first free (number free N)) t)

same_bit : (a b : Bool) → beq a b ≡ true → a ≡ b
same_bit true true e = refl
same_bit true false e = sym e
same_bit false true e = e
same_bit false false e = refl

sound : (c : Case) → passes c ≡ true → Holds c
unfolding passes grid?
sound (from w s t o c) e = eqb-true _ _ e
sound (worst w s t c o) e =
    worst-yes w _ (slots-turn w (table_of s) (ltb-true 0 w (left _ _ e))) t c o (right _ _ e)
sound (verdict w s t c o b) e =
    let w+ : 0 < w = ltb-true 0 w (left _ _ (left _ _ e)) in
    let is : Worst w (usable w (table_of s)) t c o =
    worst-yes w _ (slots-turn w (table_of s) w+) t c o (right _ _ (left _ _ e)) in
    let agree = firm-agrees w _ t c o is in
    let said : b ≡ firm_test t c = same_bit _ _ (right _ _ e) in
    (is, (λ p. agree.0 (sym said ∙ p), λ f. said ∙ agree.1 f))
sound (margin w s t l) e =
    least-yes w _ (slots-turn w (table_of s) (ltb-true 0 w (left _ _ e))) t l (right _ _ e)
sound (grant N v loss free t j) e =
    let w+ : 0 < N * v = ltb-true 0 (N * v) (left _ _ (left _ _ (left _ _ e))) in
    record {
      enough = leb-true _ _ (right _ _ (left _ _ (left _ _ e)));
      firm = firm-yes (N * v) _ (grid-turns N v loss (first free j) w+) t (right _ _ (left _ _ e));
      smallest = λ i firm.
          let n : ¬ (i < j) = λ l. firm-no (N * v) _ (grid-turns N v loss (first free i) w+) t (not-true _ (all-at _ j i (right _ _ e) l)) firm in
          omega arith;
    }
sound (refusal13 N v loss free t) e =
    let w+ : 0 < N * v = ltb-true 0 (N * v) (left _ _ e) in
    no-choice N v loss free t
    (firm-no (N * v) _ (grid-turns N v loss (first free (number free N)) w+) t (not-true _ (right _ _ e)))

-- ---- the list

every : List Case → Bool
every [] = true
every (c ∷ cs) = passes c and every cs

each : (l : List Case) → every l ≡ true → Each Holds l
unfolding every
each [] e = tt
each (c ∷ cs) e = (sound c (left _ _ e), each cs (right _ _ e))

pub cases-hold : CasesHold
unfolding ◌and◌ every passes grid? firm? worst? least? same lowest counted table tab count drops dropped rules.margin supply number sum bit any usable covers touches opens table_of grid grid_ticks first firm_test
cases-hold = each cases refl
