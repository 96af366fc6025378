-- Laws of the search for the first largest entry: in a block, from block to block, and in the block that has it.
--
-- In order: a block; blocks; the place; the crest of the counts. Assumes nothing.
use Rattle.std.proofs.Common.{◌≡◌, ◌≢◌, ℕ, ◌+◌, ◌-◌, ◌%◌, ◌≤◌, ◌<◌, min, max, List, ◌++◌, length, get_or, drop, refl, sym, ap, ◌∙◌, arith, get_or-drop}
use Rattle.std.proofs.Math.ListN.{get_or-append, drop_of_length-le}
use Rattle.std.proofs.lemmas.List.{length-drop, length-append, drop-drop, drop_at, nil_from_length}
use mathlib.Core.Logic.{⊎_elim}
use native.Mathlib.Nat.{mod-lt}
use Rattle.maps.specs.Maps.{fallen, Top}
use Rattle.maps.proofs.Strips.{strips-turns}
use Rattle.engine.specs.Counts.{Counted}
use Rattle.engine.specs.First.{Most, Led, First}
use Rattle.rules.specs.Sums.{Largest}
use Rattle.rules.proofs.Sums.{le-or-lt, largest-same}
use Rattle.engine.proofs.Turns.{last-or-before}
use Rattle.engine.proofs.Counts.{counted-one}

-- ---- a block

-- One entry more.
pub most-next :
    {x : List ℕ} {from i to m m' : ℕ} → Most x from i to m → from ≤ i → i < to → m' ≡ max m (get_or x i 0)
    → Most x from (i + 1) to m'
most-next {x} {i = i} {m = m} g low high e =
    ⊎_elim
    (λ (l : get_or x i 0 ≤ m).
    record {
      bound = λ j a b.
          ⊎_elim (λ (q : j ≡ i). rw q (omega arith)) (λ s. let z = g.bound j a s in omega arith) (last-or-before b);
      place = g.place;
      start = g.start;
      inside = g.inside;
      hit = g.hit ∙ omega arith;
    })
    (λ (l : m < get_or x i 0).
    record {
      bound = λ j a b.
          ⊎_elim (λ (q : j ≡ i). rw q (omega arith)) (λ s. let z = g.bound j a s in omega arith) (last-or-before b);
      place = i;
      start = low;
      inside = high;
      hit = omega arith;
    })
    (le-or-lt (get_or x i 0) m)

-- The largest of a block b that stands in x from place `from` on.
pub block-most :
    {x b : List ℕ} {from m : ℕ} (r : List ℕ) → drop from x ≡ b ++ r → Most b 0 (length b) (length b) m
    → Most x from (from + length b) (from + length b) m
block-most {x} {b} {from} r cut g =
    let read : (i : ℕ) → i < length b → get_or x (from + i) 0 ≡ get_or b i 0 =
    λ i l. sym (get_or-drop from x i 0) ∙ ap (λ y. get_or y i 0) cut ∙ get_or-append b r 0 i l in
    record {
      bound = λ i a l.
          let o : from + (i - from) ≡ i = omega arith in
          let z : get_or x i 0 ≡ get_or b (i - from) 0 = rw o at (read (i - from) (omega arith)) in
          let h = g.bound (i - from) (omega arith) (omega arith) in omega arith;
      place = from + g.place;
      start = omega arith;
      inside = omega (arith, g.inside);
      hit = read g.place g.inside ∙ g.hit;
    }

-- ---- blocks

-- A block that is cut off the list x at place n, with `rest` behind it: no block but the last is shorter than `size`.
pub record Cut {A : Type 0} (x block rest : List A) (n size : ℕ) : Type 0 where
  pub inside : n < length x
  pub next : drop (n + size) x ≡ rest
  pub end : n + length block ≡ min (n + size) (length x)

pub cut-of :
    {A : Type 0} (x block rest : List A) (n size : ℕ) → drop n x ≡ block ++ rest
    → length block ≡ min size (length (drop n x)) → 0 < length (drop n x) → Cut x block rest n size
cut-of x block rest n size parts long some =
    let d = length-drop n x in
    let both : length (drop n x) ≡ length block + length rest = ap length parts ∙ length-append block rest in
    let skip : drop (n + size) x ≡ drop size (block ++ rest) = sym (drop-drop size n x) ∙ ap (drop size) parts in
    record {
      inside = omega arith;
      next =
          ⊎_elim
          (λ (g : size ≤ length (drop n x)). skip ∙ drop_at block rest size (omega arith))
          (λ (g : length (drop n x) < size).
          skip ∙ drop_of_length-le (block ++ rest) (simp length-append (omega arith)) ∙ sym (nil_from_length rest (omega arith)))
          (le-or-lt size (length (drop n x)));
      end = omega arith;
    }

pub led-kept : {x : List ℕ} {n to m b at : ℕ} → Led x n m at → Most x n to to b → b ≤ m → Led x to m at
led-kept {n = n} {to} g block l =
    record {
      bound = λ i s.
          ⊎_elim
          (λ (q : n ≤ i). let z = block.bound i q s in omega arith)
          (λ (q : i < n). g.bound i q)
          (le-or-lt n i);
      place = g.place;
      start = g.start;
      inside = g.inside;
      hit = g.hit;
      least = g.least;
    }

pub led-raised :
    {x : List ℕ} {n to m b at : ℕ} → Led x n m at → Most x n to to b → m < b → to ≤ length x → Led x to b n
led-raised {n = n} {to} g block l inside =
    record {
      bound = λ i s.
          ⊎_elim
          (λ (q : n ≤ i). block.bound i q s)
          (λ (q : i < n). let z = g.bound i q in omega arith)
          (le-or-lt n i);
      place = block.place;
      start = block.start;
      inside = omega (arith, block.inside);
      hit = block.hit;
      least = λ i s. let z = g.bound i s in omega arith;
    }

-- ---- the place

-- The first m from `at` on, i places further, is the first of all.
pub first-from :
    {x : List ℕ} {m at : ℕ} (i : ℕ) → Led x (length x) m at → at + i < length x → get_or x (at + i) 0 ≡ m
    → ((k : ℕ) → k < i → get_or x (at + k) 0 ≢ m) → First x m (at + i)
first-from {x} {m} {at} i g inside hit before =
    record {
      bound = g.bound;
      inside = inside;
      hit = hit;
      least = λ j l.
          ⊎_elim
          (λ (q : at ≤ j).
          let o : at + (j - at) ≡ j = omega arith in
          let n : get_or x j 0 ≢ m = rw o at (before (j - at) (omega arith)) in
          let h = g.bound j (omega arith) in omega arith)
          (λ (q : j < at). g.least j q)
          (le-or-lt at j);
    }

-- ---- the crest of the counts

-- The first largest of the counts that are kept is the crest of the map. They are all of a list, or a part of one.
pub crest-of :
    {z x p : List ℕ} {k s m t : ℕ} (h : ℕ) → Counted z (h % length z) k x s → p ≡ x → First p m t → Top z h k m t
unfolding fallen
crest-of {z} {x} {k = k} {t = t} h c part first =
    let f : Largest (λ i. get_or x i 0) (length z) _ t = rw (part, c.as_long) at first in
    largest-same (λ i s. c.at i s ∙ strips-turns (λ a. get_or z a 0) (length z) h k i) f

-- The map itself counts one strip.
pub crest-one : (z : List ℕ) (h : ℕ) {k m t : ℕ} → k ≡ 1 → 0 < length z → First z m t → Top z h k m t
crest-one z h e some f = rw e (crest-of h (counted-one (mod-lt h some)) refl f)
