-- Decimal numbers are std's, and how many digits they have. Assumes nothing.
use mathlib.Core.Path.{◌≡◌}
use mathlib.Core.List.{List, [], ◌∷◌}
use Prim.Native.Nat.{ℕ, suc, ◌+◌, ◌^◌, ◌≤◌, ◌<◌}
use native.Mathlib.Omega.{arith}
use mir.Syntax.{w8}
use mir.Val.{Fits}
use lib.ListN.{length, get_or, length-append}
use borrow.Author.Tests.{lt-ltb, le-ltb}
use Rattle.std.proofs.lemmas.Fmt.{AppendsLastDigit, decimal_from_appends, length-decimal-le_succ, length-decimal-le}
use Rattle.std.specs.Fmt as std
use Rattle.octets.specs.Octets.{le2, le4}
use Rattle.lines.specs.Lines.{longest_four, longest_two, digits, decimal, field, Put}

appends : AppendsLastDigit digits
unfolding digits
appends =
    record {
      one = λ k n l. rw (lt-ltb n 10 l);
      more = λ k n l. rw (le-ltb n 10 l);
    }

pub decimal-is : (n : ℕ) → n < 2 ^ 64 → decimal n ≡ std.decimal n
unfolding decimal
decimal-is n l = decimal_from_appends digits appends (suc n) n l (omega (arith, length-decimal-le_succ n l))

short : (k n : ℕ) → 0 < k → n < 10 ^ k → n < 2 ^ 64 → length (decimal n) ≤ k
short k n p s l = rw (decimal-is n l) (length-decimal-le k n p s l)

-- Bytes are below 256, so four of them make ten digits at most, and two make five.
module _ (l : List ℕ) (i : ℕ) (small : (j : ℕ) → Fits w8 (get_or l j 0)) where
  pub four-digits : length (decimal (le4 l i)) < longest_four
  four-digits =
      let few : le4 l i < 4294967296 = omega (arith, small i, small (i + 1), small (i + 2), small (i + 3)) in
      omega (arith, short 10 (le4 l i) (omega arith) (omega arith) (omega arith))

  pub two_digits : length (decimal (le2 l i)) < longest_two
  two_digits =
      let few : le2 l i < 65536 = omega (arith, small i, small (i + 1)) in
      omega (arith, short 5 (le2 l i) (omega arith) (omega arith) (omega arith))

-- What a field of a record's bytes asks of the buffer, and where it ends.
pub room : {n x : ℕ} {most : ℕ} → n ≡ x → length (decimal x) < most → length (decimal n) < most
room e l = rw e l

pub put-field :
    {n x at e most : ℕ} {b d : List ℕ} (stop : ℕ) → n ≡ x → length (decimal x) < most → Put (field n stop) b at e d
    → Put (field x stop) b at e d × (e ≤ at + most)
put-field {n} {x} {at} {e} {most} {b} {d} stop s l p =
    let q : Put (field x stop) b at e d = rw s at p in
    (q, omega (arith, l, q.behind, length-append (decimal x) (stop ∷ [])))
