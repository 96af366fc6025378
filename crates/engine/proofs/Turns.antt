-- Laws of a turn: the loop of a pass, and the two passes that make a turn of the wheel.
--
-- In order: a pass; a turn. Assumes nothing.
use Rattle.std.proofs.Common.{◌≡◌, ℕ, ◌+◌, ◌-◌, ◌%◌, ◌≤◌, ◌<◌, List, ◌++◌, length, get_or, set, take, drop, arith, ◌∙◌, below_more, get_or-set_same, get_or-set_other, length-take, length-drop, get_or-take, get_or-drop}
use Rattle.std.proofs.Math.ListN.{get_or-eq_default, get_or-append}
use Rattle.std.proofs.lemmas.List.{get_or-append_right}
use mathlib.Core.Logic.{◌⊎◌, ⊎_elim}
use native.Mathlib.Nat.{le_of_suc-le-suc, eq-or-lt_of_le, mod-eq_of_lt, add-mod_right}
use native.Mathlib.Numerals.{add-one}
use Rattle.rules.proofs.Sums.{le-or-lt}
use Rattle.engine.specs.Turn.{Added, Fit, Turning, Turned}
use Rattle.engine.specs.Counts.{AsLong}

pub last-or-before : {i n : ℕ} → i < n + 1 → (i ≡ n) ⊎ (i < n)
last-or-before l = eq-or-lt_of_le (le_of_suc-le-suc (rw add-one at l))

-- ---- a pass

-- One sum more: v is written at place i.
pub added_next :
    (e x y : List ℕ) (i v : ℕ) → i < length e → v ≡ get_or x i 0 + get_or y i 0
    → ((k : ℕ) → k < i → get_or e k 0 ≡ get_or x k 0 + get_or y k 0) → (k : ℕ) → k < i + 1
    → get_or (set e i v) k 0 ≡ get_or x k 0 + get_or y k 0
added_next e x y i v inside here before =
    below_more _ _ (λ k l. get_or-set_other e i k v 0 (λ z. omega arith) ∙ before k l) (get_or-set_same e i v 0 inside ∙ here)

-- ---- a turn

take-most : (n : ℕ) (x : List ℕ) (i : ℕ) → get_or (take n x) i 0 ≤ get_or x i 0
take-most n x i =
    ⊎_elim
    (λ (g : n ≤ i). let z : get_or (take n x) i 0 ≡ 0 = get_or-eq_default (take n x) 0 (omega (arith, length-take n x)) in omega arith)
    (λ (g : i < n). let z : get_or (take n x) i 0 ≡ get_or x i 0 = get_or-take n x i 0 g in omega arith)
    (le-or-lt n i)

-- What the two passes ask for: up to the place `end` from which y is read from its start on, and from there.
pub near-asks :
    {e x y : List ℕ} {s r m : ℕ} (end : ℕ) → end + s ≡ length x → Turning e x y s r m
    → AsLong (take end e) (take end x) (drop s y) × Fit (take end x) (drop s y) m
near-asks {e} {x} {y} {s} end round t = (
  record {
    one = simp length-take (omega (arith, t.written));
    other = simp (length-take, length-drop) (omega (arith, t.written, t.read));
  },
  record { small = λ i j. rw get_or-drop (let z = take-most end x i in let f = t.fit.small i (s + j) in omega arith) },
)

pub far-asks :
    {e x y : List ℕ} {s r m : ℕ} (end : ℕ) → end + s ≡ length x → Turning e x y s r m
    → AsLong (drop end e) (drop end x) (take s y) × Fit (drop end x) (take s y) m
far-asks {e} {x} {y} {s} end round t = (
  record {
    one = simp length-drop (omega (arith, t.written));
    other = simp (length-take, length-drop) (omega (arith, t.written, t.read));
  },
  record { small = λ i j. rw get_or-drop (let z = take-most s y j in let f = t.fit.small (end + i) j in omega arith) },
)

-- The places from which y is read on to its end, n, and then those that read it from its start on, f.
pub turned :
    (n f : List ℕ) {x y : List ℕ} (end : ℕ) {s r q : ℕ} → end + s ≡ length x → length n ≡ end → length f ≡ s
    → Added n (take end x) (drop s y) → Added f (drop end x) (take s y) → q ≡ (s + r) % length x
    → Turned (n ++ f) x y s r q
turned n f {x} {y} end {s} round near far first second on =
    record { at = λ t l. ⊎_elim (λ (g : end ≤ t). late t l g) (λ (g : t < end). early t g) (le-or-lt end t); on = on }
  where
    early : (t : ℕ) → t < end → get_or (n ++ f) t 0 ≡ get_or x t 0 + get_or y ((t + s) % length x) 0
    early t g =
        let m : (t + s) % length x ≡ s + t = mod-eq_of_lt (omega arith) ∙ omega arith in
        get_or-append n f 0 t (omega arith) ∙ first.made t (omega arith) ∙ rw (m, get_or-take end x t 0 g, get_or-drop s y t 0)

    late : (t : ℕ) → t < length x → end ≤ t → get_or (n ++ f) t 0 ≡ get_or x t 0 + get_or y ((t + s) % length x) 0
    late t l g =
        let o : t + s ≡ t - end + length x = omega arith in
        let m : (t + s) % length x ≡ t - end = rw (o, add-mod_right) (mod-eq_of_lt (omega arith)) in
        let p : end + (t - end) ≡ t = omega arith in
        get_or-append_right n f end t 0 near g ∙ second.made (t - end) (omega arith)
        ∙ rw (m, get_or-drop end x (t - end) 0, p, get_or-take s y (t - end) 0 (omega arith))
