-- More never hurts: the law MoreNeverHurts, over the set of usable ticks.
--
-- More usable ticks and a longer window give more supply; more supply and a shorter need drop no more strips.
-- Assumes nothing.
use mathlib.Core.Path.{◌≡◌, sym, ap, ◌∙◌}
use mathlib.Core.Bool.{true}
use Prim.Native.Nat.{ℕ, ◌+◌, ◌*◌, ◌/◌, ◌≤◌}
use native.Mathlib.Nat.{mul-le-mul_left, le_of_eq, le_trans}
use native.Mathlib.Omega.{arith}
use borrow.Author.Tests.{ltb-true, lt-ltb}
use Rattle.rules.specs.Sums.{Subset}
use Rattle.rules.specs.Supply.{Task, supply, dropped, drops, count}
use Rattle.rules.specs.Worst.{Firm}
use Rattle.rules.specs.Laws.{NoHarder, MoreNeverHurts}
use Rattle.rules.proofs.Sums.{number-mono, number-longer}
use Rattle.rules.proofs.Step.{dropped-ltb}

pub supply-mono :
    (u v : Subset) → ((x : ℕ) → u x ≡ true → v x ≡ true) → (q D E p : ℕ) → D ≤ E → supply q u D p ≤ supply q v E p
unfolding supply
supply-mono u v kept q D E p l =
    le_trans (number-mono _ _ (q * D) (λ i _. kept ((p + i) / q))) (number-longer _ (q * D) (q * E) (mul-le-mul_left q l))

pub dropped-mono :
    (u v : Subset) (s t : Task) → NoHarder u v s t → (q p : ℕ) → dropped q v t p ≡ true → dropped q u s p ≡ true
dropped-mono u v s t easier q p d =
    let more : supply q u s.D p ≤ supply q v t.D p =
    supply-mono u v easier.kept q s.D t.D p easier.longer in
    let need : q * t.e ≤ q * s.e = mul-le-mul_left q easier.shorter in
    dropped-ltb q u s p
    ∙ lt-ltb (supply q u s.D p) (q * s.e) (omega (arith, ltb-true (supply q v t.D p) (q * t.e) (sym (dropped-ltb q v t p) ∙ d)))

drops-mono :
    (u v : Subset) (s t : Task) → NoHarder u v s t → (q n p : ℕ) → drops q v t n p ≤ drops q u s n p
unfolding drops
drops-mono u v s t easier q n p =
    number-mono _ _ n (λ i _ d.
    dropped-mono u v s t easier q (p + i * (q * s.h)) (ap (λ x. dropped q v t (p + i * (q * x))) (sym easier.period) ∙ d))

pub more-never-hurts : MoreNeverHurts
unfolding count
more-never-hurts u v s t easier q p =
    le_trans (le_of_eq (ap (λ n. drops q v t n p) easier.strips)) (drops-mono u v s t easier q s.k p)

-- A firm table stays firm.
pub firm-mono : (u v : Subset) (t : Task) → ((x : ℕ) → u x ≡ true → v x ≡ true) → Firm u t → Firm v t
unfolding Firm
firm-mono u v t kept firm q p pos =
    let easier : NoHarder u v t t =
    record { shorter = omega arith; longer = omega arith; period = omega arith; strips = omega arith; kept = kept } in
    le_trans (more-never-hurts u v t t easier q p) (firm q p pos)
