-- Texts put into a buffer one behind the other. Assumes nothing.
use mathlib.Core.Path.{◌≡◌, refl, sym, ap, ◌∙◌}
use mathlib.Core.Bool.{Bool, true, false}
use mathlib.Core.List.{List, [], ◌++◌, append_assoc, append-nil}
use Prim.Native.Nat.{ℕ, ◌+◌, ◌-◌, ◌≤◌}
use native.Mathlib.Nat.{add-zero}
use native.Mathlib.Omega.{arith}
use lib.Dec.{leb}
use lib.ListN.{length, take, drop, take-append-drop, length-append, length-drop}
use lib.Seq.{drop-drop, take_at, drop_at, length-take-le, take_all, drop-length}
use borrow.Author.Tests.{eq-eqb, ne_eqb}
use Rattle.octets.specs.Octets.{over}
use Rattle.records.specs.Records.{reply_bytes}
use Rattle.lines.specs.Lines.{longest_line, line_of, placed, fitting, line_for, Put}

pub put-none : (b : List ℕ) (at : ℕ) → Put [] b at at b
unfolding placed over
put-none b at = record { behind = sym (add-zero at); bytes = sym (take-append-drop at b) }

module _ (a t b : List ℕ) (at : ℕ) (l : at ≤ length b) where
  head-length : length (take at b ++ a) ≡ at + length a
  head-length = length-append (take at b) a ∙ ap (λ n. n + length a) (length-take-le at b l)

  abbrev rest : List ℕ
  rest = drop (length a) (drop at b)

  split : placed at a b ≡ (take at b ++ a) ++ rest
  unfolding placed over
  split = sym (append_assoc (take at b) a rest)

  placed-more : placed (at + length a) t (placed at a b) ≡ placed at (a ++ t) b
  unfolding placed over
  placed-more =
      ap (placed (at + length a) t) split
      ∙ ap (λ x. x ++ (t ++ drop (length t) (drop (at + length a) ((take at b ++ a) ++ rest))))
      (take_at (take at b ++ a) rest (at + length a) head-length)
      ∙ ap (λ x. (take at b ++ a) ++ (t ++ drop (length t) x)) (drop_at (take at b ++ a) rest (at + length a) head-length)
      ∙ ap (λ x. (take at b ++ a) ++ (t ++ x)) (drop-drop (length t) (length a) (drop at b))
      ∙ append_assoc (take at b) a (t ++ drop (length a + length t) (drop at b))
      ∙ ap (λ x. take at b ++ x) (sym (append_assoc a t (drop (length a + length t) (drop at b))))
      ∙ ap (λ n. take at b ++ ((a ++ t) ++ drop n (drop at b))) (sym (length-append a t))

pub put_then : {a t b c d : List ℕ} {at m e : ℕ} → at ≤ length b → Put a b at m c → Put t c m e d → Put (a ++ t) b at e d
put_then {a} {t} {b} {c} {d} {at} {m} {e} l p q =
    record {
      behind = omega (arith, p.behind, q.behind, length-append a t);
      bytes =
          q.bytes
          ∙ ap (λ n. placed n t c) p.behind
          ∙ ap (placed (at + length a) t) p.bytes
          ∙ placed-more a t b at l;
    }

-- Nothing is put where it doesn't fit. The answer of `fits` decides.
module _ (n : ℕ) (t b : List ℕ) (at : ℕ) (r : Bool) (asked : r ≡ leb (at + n) (length b)) where
  pub put-unfit : r ≡ false → Put (fitting n t b at) b at at b
  unfolding fitting
  put-unfit e = rw (sym asked ∙ e) (put-none b at)

  pub put_fit : {d : List ℕ} {e : ℕ} → r ≡ true → Put t b at e d → Put (fitting n t b at) b at e d
  unfolding fitting
  put_fit f p = rw (sym asked ∙ f) p

-- The line of an answer record, or of what isn't one.
pub line-short : (l b : List ℕ) (at : ℕ) → (length l ≡ reply_bytes → ⊥) → Put (line_for l b at) b at at b
unfolding line_for
line-short l b at n = rw (ne_eqb (length l) reply_bytes n) (put-none b at)

pub line-whole :
    (l b : List ℕ) (at : ℕ) {d : List ℕ} {e : ℕ} → length l ≡ reply_bytes → Put (fitting longest_line (line_of l) b at) b at e d
    → Put (line_for l b at) b at e d
unfolding line_for
line-whole l b at s p = rw (eq-eqb (length l) reply_bytes s) p

-- A text put over a part that reaches to the end of the buffer.
pub put-part :
    (t b d : List ℕ) (at : ℕ) → d ≡ over t (take (length b - at) (drop at b))
    → Put t b at (at + length t) (take at b ++ (d ++ drop (length b - at) (drop at b)))
unfolding placed
put-part t b d at e =
    record {
      behind = refl;
      bytes =
          ap (λ x. take at b ++ (x ++ drop (length b - at) (drop at b))) (e ∙ ap (over t) whole)
          ∙ ap (λ x. take at b ++ (over t (drop at b) ++ x)) none
          ∙ ap (λ x. take at b ++ x) (append-nil (over t (drop at b)));
    }
  where
    whole : take (length b - at) (drop at b) ≡ drop at b
    whole = take_all (length b - at) (drop at b) (omega (arith, length-drop at b))

    none : drop (length b - at) (drop at b) ≡ []
    none = ap (λ n. drop n (drop at b)) (sym (length-drop at b)) ∙ drop-length (drop at b)
