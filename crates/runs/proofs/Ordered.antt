-- Edges in order within a wheel lay out some set, and the edges of what lays one out are in order: a value of Ticks has runs of some set.
-- The set is had by counting the edges that a tick has come past. Assumes nothing.
use Rattle.std.proofs.Common.{◌≡◌, refl, ap, ◌∙◌, List, [], ◌∷◌, ℕ, zero, suc, ◌%◌, ◌≤◌, ◌<◌, get_or, eqb, leb, cond, arith}
use Rattle.std.proofs.Math.Nat.{mod-eq_of_lt, add-mod_right}
use Rattle.std.proofs.lemmas.Bool.Decides.{nat_tests}
use Rattle.rules.specs.Sums.{Subset, bit}
use Rattle.runs.specs.Runs.{edge, Laid, Runs, Ordered}
use Rattle.runs.proofs.Edges.{edge-rises, edge-most}

-- ---- of a set that is laid out

pub laid_ordered : {l : List ℕ} {w : ℕ} {u : Subset} → Laid l w u → Ordered l w
laid_ordered laid = record { some = laid.wheel.some; most = laid.most; order = laid.lay.order }

pub runs_ordered : {l : List ℕ} {w : ℕ} → Runs l w → Ordered l w
unfolding Runs
runs_ordered (u, laid) = laid_ordered laid

-- ---- a set for edges in order

-- How many edges tick x has come past.
abbrev gone : ℕ → List ℕ → ℕ
gone x [] = 0
gone x (e ∷ l) = cond (leb e x) (suc (gone x l)) 0

gone-at : (l : List ℕ) (w x i : ℕ) → ((j : ℕ) → j < i → get_or l j w ≤ x) → x < get_or l i w → gone x l ≡ i
gone-at [] w x zero before at = refl
gone-at [] w x (suc i) before at = absurd (omega (arith, before 0 (omega arith)))
gone-at (e ∷ l) w x zero before at = grind (arith, nat_tests)
gone-at (e ∷ l) w x (suc i) before at =
    let here : e ≤ x = before 0 (omega arith) in
    let rest : gone x l ≡ i = gone-at l w x i (λ j s. before (suc j) (omega arith)) at in
    grind (arith, nat_tests)

abbrev set-of : List ℕ → ℕ → Subset
set-of l w x = eqb (gone (x % w) l % 2) 1

bit-odd : (n : ℕ) → n < 2 → bit (eqb n 1) ≡ n
unfolding bit
bit-odd zero s = refl
bit-odd (suc zero) s = refl
bit-odd (suc (suc n)) s = absurd (omega arith)

alike : (l : List ℕ) (w : ℕ) → Ordered l w → (i x : ℕ) → edge l w i ≤ x → x < edge l w (suc i) → bit (set-of l w x) ≡ i % 2
unfolding edge
alike l w o i x low high =
    let in_it : x % w ≡ x = mod-eq_of_lt (omega (arith, edge-most l w o.order (suc i))) in
    let come : gone x l ≡ i = gone-at l w x i (λ j s. omega (arith, edge-rises l w o.order (suc j) i (omega arith))) high in
    ap (λ y. bit (eqb (gone y l % 2) 1)) in_it ∙ ap (λ n. bit (eqb (n % 2) 1)) come ∙ bit-odd (i % 2) (omega arith)

pub runs_in : {l : List ℕ} {w : ℕ} → Ordered l w → Runs l w
unfolding Runs
runs_in {l} {w} o = (
  set-of l w,
  record {
    wheel = record { some = o.some; turns = λ x. ap (λ y. eqb (gone y l % 2) 1) (add-mod_right x w) };
    most = o.most;
    lay = record { order = o.order; alike = alike l w o };
  },
)
