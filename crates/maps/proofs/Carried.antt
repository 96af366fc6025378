-- Strips counted along a map: their places, whole turns, and four strips at once.
--
-- In order: places; the strips counted so far; whole turns; four at once. Assumes nothing.
use mathlib.Core.Path.{◌≡◌, refl, sym, ap, ◌∙◌}
use mathlib.Core.Logic.{⊎_elim}
use mathlib.Core.List.{List, [], ◌∷◌}
use Prim.Native.Nat.{ℕ, zero, suc, ◌+◌, ◌-◌, ◌*◌, ◌/◌, ◌%◌, ◌≤◌, ◌<◌, zero-le}
use native.Mathlib.Nat.{add-zero, zero-add, zero-mul, one-mul, add-mul, mod-lt, mod-eq_of_lt}
use native.Mathlib.Numerals.{add-one}
use native.Mathlib.Nat.{eq-or-lt_of_le, le_of_suc-le-suc, add-mod, div-add-mod'}
use native.Mathlib.Omega.{arith}
use lib.ListN.{length, get_or, take, set, length-set}
use lib.Seq.{length-take-le, get_or-set_same, get_or-set_other}
use Rattle.std.proofs.lemmas.List.{get_or-take}
use Rattle.maps.specs.Maps.{strips, fallen, Sized}
use Rattle.maps.proofs.Strips.{strips-add, strips-rounds, strips-most, fallen-none, fallen-more}

-- ---- places

-- The place of strip i, of those from p on.
pub record At (w h p i a : ℕ) : Type 0 where
  pub inside : a < w
  pub place : a ≡ (p + i * h) % w

-- r is s places on from a: what `maps::onward` gives.
abbrev On : ℕ → ℕ → ℕ → ℕ → Type 0
On w a s r = (r ≡ (a + s) % w) × (r < w)

at_first : {w p : ℕ} (h : ℕ) → p < w → At w h p 0 p
at_first h inside = record { inside = inside; place = sym (rw (zero-mul, add-zero) (mod-eq_of_lt inside)) }

-- What a period leaves beside whole turns is how far one strip goes from tick 0.
at-step : {w : ℕ} (h : ℕ) → 0 < w → At w h 0 1 (h % w)
at-step {w} h some = record { inside = mod-lt h some; place = ap (λ x. x % w) (sym (zero-add (1 * h) ∙ one-mul h)) }

-- As far on as n strips go from tick 0, n strips later.
at_on : {w h p i n a s r : ℕ} (j : ℕ) → i + n ≡ j → At w h p i a → At w h 0 n s → On w a s r → At w h p j r
at_on {w} {h} {p} {i} {n} j e here step on =
    let far : p + i * h + (0 + n * h) ≡ p + j * h = omega (arith, add-mul i n h, ap (λ x. x * h) e) in
    record {
      inside = on.1;
      place = on.0 ∙ rw (here.place, step.place) (sym (add-mod (p + i * h) (0 + n * h) w)) ∙ ap (λ x. x % w) far;
    }

-- ---- the strips counted so far

-- The first i strips from p on are counted.
pub record Counting (m : List ℕ) (h k p met i : ℕ) : Type 0 where
  pub sized : Sized m h k
  pub count : met ≡ fallen m h i p
  pub few : met ≤ i
  pub some : i ≤ k

count-start : {m : List ℕ} {h k : ℕ} (p : ℕ) → Sized m h k → Counting m h k p 0 0
count-start {m} {h} p sized = record { sized = sized; count = sym (fallen-none m h p); few = zero-le; some = zero-le }

-- One strip more.
count_at :
    {m : List ℕ} {h k p met i a b : ℕ} (j : ℕ) → i + 1 ≡ j → j ≤ k → Counting m h k p met i → At (length m) h p i a → b ≡ get_or m a 0
    → Counting m h k p (met + b) j
count_at {m} {h} {p = p} {i = i} {a} j e more c at bit =
    let here = bit ∙ ap (λ a. get_or m a 0) at.place in
    record {
      sized = c.sized;
      count = omega (arith, c.count, fallen-more m h i p, ap (λ n. fallen m h n p) e, here);
      few = omega (arith, c.few, c.sized.bits a);
      some = more;
    }

-- ---- whole turns

-- The strips that are left over beside whole turns and the others of a turn make them all.
pub turned :
    {m : List ℕ} {h k : ℕ} (p : ℕ) {left others : ℕ} → Sized m h k → left ≡ fallen m h (k % length m) p
    → others ≡ fallen m h (length m - k % length m) ((p + k % length m * h) % length m)
    → (k / length m * (left + others) + left ≡ fallen m h k p) × (k / length m * (left + others) + left ≤ k)
unfolding fallen
turned {m} {h} {k} p {left} {others} sized here there =
    let w = length m in
    let f : ℕ → ℕ = λ a. get_or m a 0 in
    let over = k % w in
    let split : over + (w - over) ≡ w = omega (arith, mod-lt k sized.some) in
    let turn : left + others ≡ strips f w h w p =
    rw (here, there) (sym (strips-add f w h over (w - over) p)) ∙ ap (λ n. strips f w h n p) split in
    let all : k / w * (left + others) + left ≡ strips f w h k p =
    rw (turn, here) (sym (strips-rounds f w h (k / w) over p)) ∙ ap (λ n. strips f w h n p) (div-add-mod' k w) in
    (all, rw all (strips-most f w h k p sized.bits))

-- ---- four at once

-- The first i + j strips from p on are counted. Of the four places the first j have gone on four strips from strips i on, the others are where
-- those arrive, and four strips go as far as `four`.
pub record Carried (m : List ℕ) (h k p four met i j : ℕ) (l : List ℕ) : Type 0 where
  pub counting : Counting m h k p met (i + j)
  pub step : At (length m) h 0 4 four
  pub long : length l ≡ 4
  pub ahead : (x : ℕ) → x < j → At (length m) h p (i + 4 + x) (get_or l x 0)
  pub here : (x : ℕ) → j ≤ x → x < 4 → At (length m) h p (i + x) (get_or l x 0)

places-four :
    {w h p b c d : ℕ} → At w h p 0 p → At w h p 1 b → At w h p 2 c → At w h p 3 d
    → (x : ℕ) → x < 4 → At w h p x (get_or (p ∷ b ∷ c ∷ d ∷ []) x 0)
places-four first second third fourth zero less = first
places-four first second third fourth (suc zero) less = second
places-four first second third fourth (suc (suc zero)) less = third
places-four first second third fourth (suc (suc (suc zero))) less = fourth
places-four first second third fourth (suc (suc (suc (suc x)))) less = absurd (omega arith)

pub carried-start :
    {m : List ℕ} {h k p two four b c d : ℕ} → Sized m h k → p < length m → On (length m) (h % length m) (h % length m) two
    → On (length m) two two four → On (length m) p (h % length m) b → On (length m) p two c → On (length m) b two d
    → Carried m h k p four 0 0 0 (p ∷ b ∷ c ∷ d ∷ [])
carried-start {m} {h} {k} {p} sized inside to-two to-four to-b to-c to-d =
    let one = at-step h sized.some in
    let two = at_on 2 refl one one to-two in
    let first = at_first h inside in
    let second = at_on 1 refl first one to-b in
    let places = places-four first second (at_on 2 refl first two to-c) (at_on 3 refl second two to-d) in
    record {
      counting = count-start p sized;
      step = at_on 4 refl two two to-four;
      long = refl;
      ahead = λ x less. absurd (omega arith);
      here = λ x low high. rw zero-add (places x high);
    }

module _ {m : List ℕ} {h k p four met i j : ℕ} {l : List ℕ} (r : Carried m h k p four met i j l) where
  -- The next strip is counted, and its place goes on.
  pub carried-next :
      {x a : ℕ} → i + 4 ≤ k → j < 4 → x ≡ get_or m (get_or l j 0) 0 → On (length m) (get_or l j 0) four a
      → Carried m h k p four (met + x) i (j + 1) (set l j a)
  carried-next {x} {a} some less bit on =
      let at = r.here j (omega arith) less in
      record {
        counting = count_at (i + (j + 1)) (omega arith) (omega arith) r.counting at bit;
        step = r.step;
        long = length-set l j a ∙ r.long;
        ahead = λ y low.
            ⊎_elim
            (λ (e : y ≡ j).
            let same : get_or (set l j a) y 0 ≡ a = rw e (get_or-set_same l j a 0 (omega (arith, r.long))) in
            rw same (at_on (i + 4 + y) (omega arith) at r.step on))
            (λ (before : y < j).
            let other : get_or (set l j a) y 0 ≡ get_or l y 0 = get_or-set_other l j y a 0 (λ z. omega arith) in
            rw other (r.ahead y before))
            (eq-or-lt_of_le (le_of_suc-le-suc (rw add-one at low)));
        here = λ y low high.
            let other : get_or (set l j a) y 0 ≡ get_or l y 0 = get_or-set_other l j y a 0 (λ z. omega arith) in
            rw other (r.here y (omega arith) high);
      }

-- The strips that are left over beside whole fours.
module _ {m : List ℕ} {h k p four met i : ℕ} {l : List ℕ} (r : Carried m h k p four met i 0 l) where
  left-few : (n : ℕ) → n ≤ 3 → length (take n l) ≡ n
  left-few n few = length-take-le n l (omega (arith, r.long))

  -- One of them more.
  pub count_left :
      {n j x met' : ℕ} → i + n ≡ k → n ≤ 3 → j < length (take n l) → Counting m h k p met' (i + j)
      → x ≡ get_or m (get_or (take n l) j 0) 0 → Counting m h k p (met' + x) (i + (j + 1))
  count_left {n} {j} all few less so_far x =
      let low : j < n = omega (arith, left-few n few) in
      let at : At (length m) h p (i + j) (get_or (take n l) j 0) = rw get_or-take (r.here j (omega arith) (omega arith)) in
      count_at (i + (j + 1)) (omega arith) (omega arith) so_far at x
