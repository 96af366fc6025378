-- A walk over the candidate offsets of late runs: strips counted from a start, the offset sliding back from it, all starts, and why they are enough.
--
-- Where no candidate passes the allowance no tick does: a count above it rises from one that isn't, or stands at every tick of the wheel, a
-- candidate's among them.
-- In order: looks; strips counted; the offset slides back; all starts; the starts are enough; turns between strips. Assumes nothing.
use mathlib.Core.Path.{◌≡◌, refl, sym, ap, ◌∙◌}
use mathlib.Core.Logic.{⊎_elim}
use mathlib.Core.List.{List}
use Prim.Native.Nat.{ℕ, zero, suc, ◌+◌, ◌-◌, ◌*◌, ◌%◌, ◌≤◌, ◌<◌, zero-le}
use native.Mathlib.Nat.{le_refl, mod-lt, mod-eq_of_lt, mod_self}
use native.Mathlib.Numerals.{add-one}
use native.Mathlib.Omega.{arith}
use lib.ListN.{length, get_or, get_or-eq_default}
use Rattle.std.specs.List.{position, prefix_len}
use Rattle.std.proofs.lemmas.List.Sums.{prefix_len-le-length, prefix_len_passes, prefix_len_stops}
use Rattle.std.proofs.lemmas.Grind.{common_steps}
use Rattle.std.specs.Option.{unwrap_or}
use Rattle.std.proofs.Common.{Bool, Option, not, nat_lt}
use Rattle.rules.specs.Sums.{Subset, bit, sum}
use Rattle.rules.proofs.Sums.{le-or-lt}
use Rattle.runs.specs.Runs.{edge, Lay, Laid, Runs, Ordered}
use Rattle.runs.proofs.Ordered.{runs_in}
use Rattle.runs.proofs.Edges.{edge-within, edge-past}
use Rattle.maps.specs.Maps.{strips, met}
use Rattle.maps.proofs.Strips.{strips-more, strips-longer, strips-back, strips-turns}
use Rattle.maps.proofs.Places.{place-first, place-next, place-before, one_place, place-behind}
use Rattle.maps.proofs.Rises.{Rise, rise, rise-start, none-met}
use Rattle.maps.proofs.Draws.{edge-most}
use Rattle.excess.specs.Excess.{Lit, Met, start_of, Wraps, Opens, Says}
use Rattle.excess.specs.declared.Outcome.{Outcome}
use Rattle.excess.specs.declared.Outcome.TheVariants as outcome

-- ---- looks

lit : (l : List ℕ) (w p i b : ℕ) → i % 2 ≡ b → edge l w i ≤ p → p < edge l w (suc i) → Lit l w p b
lit l w p i b parity from to = record { each = λ z laid. sym parity ∙ sym (laid.lay.alike i p from to) }

-- Run i is the first one that ends behind tick p.
look : (l : List ℕ) (w p i : ℕ) → ((k : ℕ) → k < i → get_or l k w ≤ p) → p < get_or l i w → Lit l w p (i % 2)
unfolding edge
look l w p zero before behind = lit l w p 0 (0 % 2) refl zero-le behind
look l w p (suc i) before behind = lit l w p (suc i) (suc i % 2) refl (before i (omega arith)) behind

pub looked :
    (l : List ℕ) (w p : ℕ) {r : Option ℕ} {i : ℕ} → p < w → r ≡ position (λ end. nat_lt p end) l → i ≡ unwrap_or r (length l)
    → Lit l w p (i % 2)
looked l w p {i = i} inside found run =
    let test : ℕ → Bool = λ end. not (nat_lt p end) in
    let most = prefix_len-le-length test l in
    let first : i ≡ prefix_len test l = grind (arith, common_steps) in
    look l w p i (λ k less. let e = prefix_len_passes test l k w (omega arith) in grind (arith, common_steps))
    (⊎_elim
    (λ (past : length l ≤ i). rw (get_or-eq_default l w past) inside)
    (λ (at : i < length l). let e = prefix_len_stops test l w (omega arith) in rw first (grind (arith, common_steps)))
    (le-or-lt (length l) i))

pub start-itself : (l : List ℕ) (w i : ℕ) → edge l w (suc i) < w → edge l w (suc i) ≡ start_of l w i
unfolding start_of edge
start-itself l w i inside = sym (mod-eq_of_lt inside)

pub start-end : (l : List ℕ) (w i : ℕ) → Ordered l w → w ≤ edge l w (suc i) → 0 ≡ start_of l w i
unfolding start_of edge
start-end l w i runs past =
    let end : get_or l i w ≡ w = omega (arith, edge-most l w (runs_in runs) (suc i)) in
    sym (ap (λ x. x % w) end ∙ mod_self w)

start-inside : (l : List ℕ) (w i : ℕ) → 0 < w → start_of l w i < w
unfolding start_of
start-inside l w i some = mod-lt _ some

-- ---- strips counted

-- No more than a of k strips from tick p on meet a late tick.
pub record Few (l : List ℕ) (w s k a p : ℕ) : Type 0 where
  pub each : (z : Subset) → Laid l w z → met w z s k p ≤ a

met-few : {l : List ℕ} {w s k p c a : ℕ} → Met l w s k p c → c ≤ a → Few l w s k a p
met-few count few = record { each = λ z laid. omega (arith, count.each z laid) }

-- The first n strips from tick `from` on are counted, and the next one arrives at q.
pub record Counting (l : List ℕ) (w s k a from q n drops : ℕ) : Type 0 where
  pub start : from < w
  pub some : n ≤ k
  pub inside : q < w
  pub place : q ≡ (from + n * s) % w
  pub count : Met l w s n from drops
  pub few : drops ≤ a

pub counting-start : {l : List ℕ} {w from : ℕ} (s k a : ℕ) → from < w → Counting l w s k a from from 0 0
unfolding met strips sum
counting-start s k a inside =
    record {
      start = inside;
      some = zero-le;
      inside = inside;
      place = sym (place-first s inside);
      count = record { each = λ z laid. refl };
      few = zero-le;
    }

met-more :
    {l : List ℕ} {w s from q n drops b : ℕ} → q ≡ (from + n * s) % w → Met l w s n from drops → Lit l w q b
    → Met l w s (n + 1) from (drops + b)
unfolding met
met-more {w = w} {s} {from} {n = n} place count look =
    record {
      each = λ z laid.
          omega (arith, count.each z laid, look.each z laid, strips-more (λ x. bit (z x)) w s n from, ap (λ x. bit (z x)) place);
    }

pub counting-next :
    {l : List ℕ} {w s k a from q n drops b drops' q' : ℕ} → Counting l w s k a from q n drops → n < k → Lit l w q b
    → drops' ≡ drops + b → drops' ≤ a → (q' ≡ (q + s) % w) × (q' < w) → Counting l w s k a from q' (n + 1) drops'
counting-next {w = w} {s} {from = from} {n = n} counting less look e few on =
    record {
      start = counting.start;
      some = omega arith;
      inside = on.1;
      place = on.0 ∙ ap (λ x. (x + s) % w) counting.place ∙ place-next w from n s;
      count = rw e (met-more counting.place counting.count look);
      few = few;
    }

-- Left while strips are counted: those behind can only add to the count.
pub counting-left :
    {l : List ℕ} {w s k a from q n drops b : ℕ} → Counting l w s k a from q n drops → n < k → Lit l w q b → a < drops + b
    → Says l w s k a outcome.Passed
unfolding met
counting-left {w = w} {s} {k} {from = from} {n = n} counting less look above z laid =
    let longer = strips-longer (λ x. bit (z x)) w s (n + 1) k from (omega arith) in
    record {
      place = from;
      inside = counting.start;
      passes = omega (arith, (met-more counting.place counting.count look).each z laid);
    }

-- ---- the offset slides back

-- The strip n from p on arrives at the start, and q is behind the last of the k strips.
pub record Sliding (l : List ℕ) (w s k a from p q n drops : ℕ) : Type 0 where
  pub inside : p < w
  pub last : q < w
  pub behind : q ≡ (p + k * s) % w
  pub arrives : (p + n * s) % w ≡ from
  pub count : Met l w s k p drops
  pub few : drops ≤ a
  pub some : n < k
  pub seen : (i x : ℕ) → i ≤ n → x < w → (x + i * s) % w ≡ from → Few l w s k a x

-- One step back: from p to p', the place behind from q to q'.
module _
    {l : List ℕ} {w s k a from p q n drops p' q' b b' : ℕ} (sliding : Sliding l w s k a from p q n drops)
    (front : (p' < w) × (p ≡ (p' + s) % w)) (last : (q' < w) × (q ≡ (q' + s) % w)) (in-front : Lit l w p' b) (at-end : Lit l w q' b') where
  back-behind : q' ≡ (p' + k * s) % w
  back-behind = place-behind s k front last sliding.behind

  back-counts : (z : Subset) → Laid l w z → drops + b ≡ met w z s k p' + b'
  unfolding met
  back-counts z laid =
      omega (arith, sliding.count.each z laid, in-front.each z laid, at-end.each z laid, strips-back (λ x. bit (z x)) w s k front.0 front.1 back-behind)

  -- The strip that goes out was counted.
  pub back-counted : Runs l w → b' ≤ drops + b
  unfolding Runs
  back-counted runs = omega (arith, back-counts runs.0 runs.1)

  back-met : {drops' : ℕ} → drops' ≡ drops + b - b' → Met l w s k p' drops'
  back-met e = record { each = λ z laid. omega (arith, back-counts z laid) }

  pub back-next :
      {drops' : ℕ} → n + 1 < k → drops' ≡ drops + b - b' → drops' ≤ a → Sliding l w s k a from p' q' (n + 1) drops'
  back-next less e few =
      let arrives = place-before w p p' n s front.1 ∙ sliding.arrives in
      record {
        inside = front.0;
        last = last.0;
        behind = back-behind;
        arrives = arrives;
        count = back-met e;
        few = few;
        some = less;
        seen = λ i x last below there.
            ⊎_elim
            (λ (now : n + 1 ≤ i).
            let late : i ≡ n + 1 = omega arith in
            let same : x ≡ p' = one_place ((n + 1) * s) below front.0 (rw late at there ∙ sym arrives) in
            rw same (met-few (back-met e) few))
            (λ (before : i < n + 1). sliding.seen i x (omega arith) below there)
            (le-or-lt (n + 1) i);
      }

  pub back-left : a < drops + b - b' → Says l w s k a outcome.Passed
  back-left above z laid = record { place = p'; inside = front.0; passes = omega (arith, back-counts z laid) }

-- ---- all starts

-- No tick passes from which a strip arrives at a start that is listed from entry `from` on before entry i.
pub record Walking (l : List ℕ) (w s k a from i drops : ℕ) : Type 0 where
  pub even : i % 2 ≡ 0
  pub few : drops ≤ a
  pub seen :
      (j n p : ℕ) → from ≤ j → j < i → j % 2 ≡ 0 → n < k → p < w → (p + n * s) % w ≡ start_of l w j → Few l w s k a p

pub walking-next :
    {l : List ℕ} {w s k a from i drops start p q n drops' : ℕ} → Walking l w s k a from i drops → start ≡ start_of l w i
    → Sliding l w s k a start p q n drops' → k ≤ n + 1 → Walking l w s k a from (i + 2) drops'
walking-next {l} {w} {i = i} {n = last} walking place sliding all =
    record {
      even = omega (arith, walking.even);
      few = sliding.few;
      seen = λ j n x low high even less below there.
          ⊎_elim
          (λ (later : i ≤ j).
          let now : j ≡ i = omega (arith, walking.even) in
          sliding.seen n x (omega arith) below (there ∙ ap (start_of l w) now ∙ sym place))
          (λ (before : j < i). walking.seen j n x low before even less below there)
          (le-or-lt i j);
    }

-- ---- the starts are enough

-- A late run that comes over the wheel's end has its last tick.
last-late : {l : List ℕ} {w : ℕ} {z : Subset} → Wraps l w → Lay l w z → (x : ℕ) → x + 1 ≡ w → bit (z x) ≡ 1
unfolding edge
last-late {l} {w} wraps lay x end =
    let n : ℕ = length l - 1 in
    let all : suc n ≡ length l = omega (arith, wraps.more) in
    let past : edge l w (suc (suc n)) ≡ w = edge-past l w (suc (suc n)) (omega arith) in
    lay.alike (suc n) x (omega (arith, wraps.last)) (omega arith) ∙ rw all wraps.odd

-- The first edge isn't a start there.
not_first :
    {l : List ℕ} {w : ℕ} {z : Subset} {s k p : ℕ} → Wraps l w → Lay l w z → (r : Rise w z s k p)
    → get_or l 0 w ≡ (p + r.strip * s) % w → ⊥
unfolding edge
not_first {l} {w} wraps lay r place =
    let zero-first : get_or l 0 w ≡ 0 = edge-within l w 0 1 (omega (arith, wraps.more)) ∙ wraps.first in
    let round : (r.before + 1) % w ≡ 0 = r.next ∙ sym place ∙ zero-first in
    ⊎_elim
    (λ (past : w ≤ r.before + 1).
    omega (arith, last-late wraps lay r.before (omega (arith, r.inside)), r.out))
    (λ (below : r.before + 1 < w). omega (arith, mod-eq_of_lt below))
    (le-or-lt w (r.before + 1))

module _
    {l : List ℕ} {w s k a from i drops : ℕ} (walking : Walking l w s k a from i drops) (opens : Opens l w from) (all : length l ≤ i)
    (z : Subset) (laid : Laid l w z) where
  some : 0 < w
  some = laid.wheel.some

  -- A count that rises to tick p is a candidate's.
  risen : (p : ℕ) → p < w → Rise w z s k p → met w z s k p ≤ a
  unfolding start_of
  risen p inside r =
      let st = rise-start laid.lay r in
      let at = (p + r.strip * s) % w in
      let arrives : at ≡ start_of l w st.entry = sym (ap (λ x. x % w) st.place ∙ mod-eq_of_lt (mod-lt _ some)) in
      let listed : from ≤ st.entry =
      ⊎_elim
      (λ (e : from ≡ 0). omega arith)
      (λ e.
      ⊎_elim
      (λ (low : st.entry ≤ 0).
      let first : st.entry ≡ 0 = omega arith in
      absurd (not_first e.1 laid.lay r (rw first at st.place)))
      (λ (high : 0 < st.entry). omega (arith, st.even, e.0))
      (le-or-lt st.entry 0))
      opens in
      (walking.seen st.entry r.strip p listed (omega (arith, st.below)) st.even r.few inside arrives).each z laid

  -- So a count above the allowance is one from the tick before, too.
  earlier : (t p : ℕ) → p < w → p ≡ (t + 1) % w → a < met w z s k p → a < met w z s k t
  earlier t p inside on above =
      ⊎_elim
      (λ (low : met w z s k t ≤ a). absurd (omega (arith, risen p inside (rise w z s k t p some on (omega arith)))))
      (λ (high : a < met w z s k t). high)
      (le-or-lt (met w z s k t) a)

  down : (x y : ℕ) → x ≤ y → y < w → a < met w z s k y → a < met w z s k x
  down x zero low inside above = let e : x ≡ 0 = omega arith in rw e above
  down x (suc y) low inside above =
      ⊎_elim
      (λ (before : x ≤ y).
      down x y before (omega arith)
      (earlier y (suc y) inside (sym (mod-eq_of_lt (omega arith) ∙ add-one y)) above))
      (λ (here : y < x). let e : x ≡ suc y = omega arith in rw e above)
      (le-or-lt x y)

  everywhere : (p x : ℕ) → p < w → x < w → a < met w z s k p → a < met w z s k x
  everywhere p x inside below above =
      let end : w - 1 + 1 ≡ w = omega (arith, some) in
      let home : 0 ≡ (w - 1 + 1) % w = rw end (sym (mod_self w)) in
      down x (w - 1) (omega arith) (omega arith) (earlier (w - 1) 0 some home (down 0 p zero-le inside above))

  pub enough : 0 < k → (p : ℕ) → p < w → met w z s k p ≤ a
  enough strips p inside =
      ⊎_elim
      (λ (low : met w z s k p ≤ a). low)
      (λ (above : a < met w z s k p).
      ⊎_elim
      (λ (none : length l ≤ from).
      let empty : length l ≡ 0 =
      ⊎_elim (λ (e : from ≡ 0). omega arith) (λ e. absurd (omega (arith, e.0, e.1.more))) opens in
      absurd (omega (arith, none-met l w z laid empty s k p)))
      (λ (first : from < length l).
      let x = start_of l w from in
      let below = start-inside l w from some in
      let even : from % 2 ≡ 0 = ⊎_elim (λ e. rw e refl) (λ e. rw e.0 refl) opens in
      let few = walking.seen from 0 x (le_refl from) (omega arith) even strips below (place-first s below) in
      absurd (omega (arith, few.each z laid, everywhere p x inside below above)))
      (le-or-lt (length l) from))
      (le-or-lt (met w z s k p) a)

-- ---- turns between strips

pub says-turns : (l : List ℕ) (w h k a : ℕ) (f : Outcome) → Says l w (h % w) k a f → Says l w h k a f
unfolding met
says-turns l w h k a outcome.Passed says =
    λ z laid.
    let above = says z laid in
    record {
      place = above.place;
      inside = above.inside;
      passes = rw (strips-turns (λ x. bit (z x)) w h k above.place) at above.passes;
    }
says-turns l w h k a outcome.Never says =
    λ z laid p inside. rw (strips-turns (λ x. bit (z x)) w h k p) at (says z laid p inside)
says-turns l w h k a outcome.Spent says = says
