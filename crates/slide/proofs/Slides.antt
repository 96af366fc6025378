-- Sliding back from a start of a late run, and the best of what was seen on the way.
--
-- In order: which is better; a step back; ranks; the steps back from one start; all starts. Assumes nothing.
use mathlib.Core.Path.{◌≡◌, sym, ap, ◌∙◌}
use mathlib.Core.Logic.{⊎_elim}
use mathlib.Core.List.{List}
use Prim.Native.Nat.{ℕ, suc, ◌+◌, ◌-◌, ◌*◌, ◌%◌, ◌≤◌, ◌<◌, max, zero-le}
use native.Mathlib.Nat.{add-mod-mod, max-eq_left, max-eq_right, le_refl}
use native.Mathlib.Omega.{arith}
use lib.ListN.{length, get_or}
use Rattle.limits.specs.Limits.{most_ticks, most_strips}
use Rattle.rules.proofs.Sums.{le-or-lt}
use Rattle.runs.specs.Runs.{edge}
use Rattle.maps.specs.Maps.{fallen}
use Rattle.maps.proofs.Strips.{strips-front, strips-back, fallen-none, fallen-most}
use Rattle.slide.specs.Slides.{NoBetter, Seen, Hit, Ranked, Slid, Round}
use Rattle.maps.proofs.Places.{place-first, place-before, one_place, place-behind}

-- ---- which is better

pub itself : (c t : ℕ) → NoBetter c t c t
itself c t = record { most = le_refl c; first = λ e. le_refl t }

pub better : {c t c' t' c'' t'' : ℕ} → NoBetter c t c' t' → NoBetter c' t' c'' t'' → NoBetter c t c'' t''
better {c} {t} {c'} {t'} {c''} {t''} a b =
    record {
      most = omega (arith, a.most, b.most);
      first = λ e.
          let left : c ≡ c' = omega (arith, a.most, b.most) in
          let right : c' ≡ c'' = omega arith in
          omega (arith, a.first left, b.first right);
    }

-- ---- a step back

front-more :
    (m : List ℕ) (s n : ℕ) {p p' : ℕ} → p' < length m → p ≡ (p' + s) % length m → fallen m s (n + 1) p' ≡ get_or m p' 0 + fallen m s n p
unfolding fallen
front-more m s n inside back = strips-front (λ a. get_or m a 0) (length m) s n inside back

step_count :
    (m : List ℕ) (s k : ℕ) {p p' q' : ℕ} → p' < length m → p ≡ (p' + s) % length m → q' ≡ (p' + k * s) % length m
    → fallen m s k p + get_or m p' 0 ≡ fallen m s k p' + get_or m q' 0
unfolding fallen
step_count m s k inside back last = strips-back (λ a. get_or m a 0) (length m) s k inside back last

-- ---- ranks

-- c is the count from t beside that from the start, which stands for k + 1.
pub record Beside (m : List ℕ) (s k start c t : ℕ) : Type 0 where
  pub inside : t < length m
  pub count : c + fallen m s k start ≡ fallen m s k t + (k + 1)

pub beside-fits :
    {m : List ℕ} {s k start c t : ℕ} → Round m s k → Beside m s k start c t → (0 < c) × (c ≤ 2 * most_strips + 1) × (t < most_ticks)
beside-fits {m} {s} {k} {start} {t = t} round b =
    let bits = round.sized.bits in
    let few = fallen-most m s k start bits in
    let here = fallen-most m s k t bits in
    (omega (arith, b.count), omega (arith, b.count, round.sized.strips), omega (arith, b.inside, round.sized.most))

-- r is the rank of t with its count beside the start's.
pub record Rank (m : List ℕ) (s k start r t : ℕ) : Type 0 where
  pub count : ℕ
  pub beside : Beside m s k start count t
  pub rank : Ranked r count t

ranks :
    {m : List ℕ} {s k start r t r' t' : ℕ} → Rank m s k start r t → Rank m s k start r' t' → r ≤ r'
    → NoBetter (fallen m s k t) t (fallen m s k t') t'
ranks a b less =
    record {
      most = omega (arith, a.rank.rank, b.rank.rank, a.beside.count, b.beside.count);
      first = λ e. omega (arith, a.rank.rank, b.rank.rank, a.beside.count, b.beside.count);
    }

pub rank_most : {m : List ℕ} {s k start r t : ℕ} → Round m s k → Rank m s k start r t → r ≤ (2 * most_strips + 1) * most_ticks
rank_most round a = let fits = beside-fits round a.beside in omega (arith, a.rank.rank)

rank-larger :
    {m : List ℕ} {s k start r t r' t' : ℕ} → Rank m s k start r t → Rank m s k start r' t' → (at : ℕ) × Rank m s k start (max r r') at
rank-larger {r = r} {t} {r'} {t'} a b =
    ⊎_elim
    (λ (less : r ≤ r'). (t', rw (max-eq_right less) b))
    (λ (more : r' < r). let e : max r r' ≡ r = max-eq_left (omega arith) in (t, rw e a))
    (le-or-lt r r')

-- ---- the steps back from one start

-- The count from p goes beside the start's, the nth strip from p on arrives at the start, and q is behind the last: the n strips from q on
-- are taken off. The top is the rank of the best tick passed.
pub record Back (m : List ℕ) (s k start top drops gone p q n : ℕ) : Type 0 where
  pub at : ℕ
  pub rank : Rank m s k start top at
  pub here : Beside m s k start drops p
  pub inside : q < length m
  pub behind : q ≡ (p + k * s) % length m
  pub arrives : (p + n * s) % length m ≡ start
  pub taken : gone ≡ fallen m s n q
  pub some : n ≤ k
  pub seen : (i x : ℕ) → i ≤ n → x < length m → (x + i * s) % length m ≡ start → Seen m s k (fallen m s k at) at x

pub beside-itself : {m : List ℕ} {start : ℕ} (s k : ℕ) → start < length m → Beside m s k start (k + 1) start
beside-itself s k inside = record { inside = inside; count = omega arith }

pub back_start :
    {m : List ℕ} {start q top : ℕ} (s k : ℕ) → start < length m → Ranked top (k + 1) start
    → q ≡ (start + k * s % length m) % length m → q < length m → Back m s k start top (k + 1) 0 start q 0
back_start {m} {start} {q} s k inside rank last behind =
    let here = beside-itself s k inside in
    let arrives = place-first s inside in
    record {
      at = start;
      rank = record { count = k + 1; beside = here; rank = rank };
      here = here;
      inside = behind;
      behind = last ∙ add-mod-mod start (k * s) (length m);
      arrives = arrives;
      taken = sym (fallen-none m s q);
      some = zero-le;
      seen = λ i x none below there.
          let first : i ≡ 0 = omega arith in
          let same : x ≡ start = one_place (0 * s) below inside (rw first at there ∙ sym arrives) in
          rw same (itself _ _);
    }

-- One step back: from p to p', the place behind from q to q'.
module _
    {m : List ℕ} {s k start top drops gone p q n p' q' : ℕ} (round : Round m s k) (b : Back m s k start top drops gone p q n)
    (front : (p' < length m) × (p ≡ (p' + s) % length m)) (last : (q' < length m) × (q ≡ (q' + s) % length m)) where
  step-behind : q' ≡ (p' + k * s) % length m
  step-behind = place-behind s k front last b.behind

  back-counts : drops + fallen m s k start + get_or m p' 0 ≡ fallen m s k p' + (k + 1) + get_or m q' 0
  back-counts = omega (arith, step_count m s k front.0 front.1 step-behind, b.here.count)

  -- The strip that is taken off was counted.
  pub back-counted : get_or m q' 0 ≤ drops + get_or m p' 0
  back-counted = omega (arith, back-counts, fallen-most m s k start round.sized.bits)

  pub back-here : {drops' : ℕ} → drops' ≡ drops + get_or m p' 0 - get_or m q' 0 → Beside m s k start drops' p'
  back-here e = record { inside = front.0; count = omega (arith, back-counts, back-counted) }

  pub back-next :
      {drops' gone' r top' : ℕ} → n < k → drops' ≡ drops + get_or m p' 0 - get_or m q' 0 → gone' ≡ gone + get_or m q' 0
      → Ranked r drops' p' → top' ≡ max top r → Back m s k start top' drops' gone' p' q' (n + 1)
  back-next {drops'} {gone'} {r} {top'} less e more rank most =
      let here = back-here e in
      let new : Rank m s k start r p' = record { count = drops'; beside = here; rank = rank } in
      let found = rank-larger b.rank new in
      let best : Rank m s k start top' found.0 = rw most found.1 in
      let arrives = place-before (length m) p p' n s front.1 ∙ b.arrives in
      let old = ranks b.rank best (omega (arith, most)) in
      record {
        at = found.0;
        rank = best;
        here = here;
        inside = last.0;
        behind = step-behind;
        arrives = arrives;
        taken = omega (arith, b.taken, front-more m s n last.0 last.1);
        some = omega arith;
        seen = λ i x few below there.
            ⊎_elim
            (λ (now : n + 1 ≤ i).
            let late : i ≡ n + 1 = omega arith in
            let same : x ≡ p' = one_place ((n + 1) * s) below front.0 (rw late at there ∙ sym arrives) in
            rw same (ranks new best (omega (arith, most))))
            (λ (before : i < n + 1). better (b.seen i x (omega arith) below there) old)
            (le-or-lt (n + 1) i);
      }

pub back-few : {m : List ℕ} {s k start top drops gone p q n : ℕ} → Round m s k → Back m s k start top drops gone p q n → gone ≤ n
back-few {m} {s} {q = q} {n} round b = omega (arith, b.taken, fallen-most m s n q round.sized.bits)

-- ---- all starts

-- Tick 0 is seen, and all ticks from which a strip arrives at a start of a late run that is listed before entry i.
pub record Starts (l m : List ℕ) (s k c t i : ℕ) : Type 0 where
  pub hit : Hit m s k c t
  pub even : i % 2 ≡ 0
  pub zero : Seen m s k c t 0
  pub seen :
      (j n p : ℕ) → j < i → j % 2 ≡ 0 → n < k → p < length m → (p + n * s) % length m ≡ get_or l j (length m)
      → Seen m s k c t p

pub starts-next :
    {l m : List ℕ} {s k c t i a c' t' : ℕ} → Starts l m s k c t i → a ≡ edge l (length m) (suc i) → Slid m s k a c t c' t'
    → Starts l m s k c' t' (i + 2)
unfolding edge
starts-next {l} {m} {i = i} st place slid =
    record {
      hit = slid.hit;
      even = omega (arith, st.even);
      zero = better st.zero slid.old;
      seen = λ j n p less even few inside arrives.
          ⊎_elim
          (λ (later : i ≤ j).
          let now : j ≡ i = omega (arith, st.even) in
          slid.new n p few inside (arrives ∙ ap (λ x. get_or l x (length m)) now ∙ sym place))
          (λ (before : j < i). better (st.seen j n p before even few inside arrives) slid.old)
          (le-or-lt i j);
    }
