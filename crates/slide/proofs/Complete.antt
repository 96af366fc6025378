-- Only from a tick from which a strip arrives at a start of a late run does a count rise: so the first largest tick is 0 or such a tick,
-- and what is no worse than all of these is the largest of all.
--
-- In order: the largest of all; strips less than once round. Assumes nothing.
use mathlib.Core.Path.{◌≡◌, sym, ◌∙◌}
use mathlib.Core.List.{List}
use Prim.Native.Nat.{ℕ, zero, suc, ◌+◌, ◌-◌, ◌*◌, ◌%◌, ◌≤◌, ◌<◌}
use native.Mathlib.Nat.{mod-lt, mod-eq_of_lt}
use native.Mathlib.Numerals.{add-one}
use native.Mathlib.Omega.{arith}
use lib.ListN.{length}
use Rattle.rules.specs.Sums.{Largest}
use Rattle.rules.proofs.Sums.{Best, best}
use Rattle.maps.specs.Maps.{Mapped, fallen, Top, Sized}
use Rattle.maps.proofs.Strips.{met-drawn, top-turns}
use Rattle.maps.proofs.Rises.{Start, rise, rise-start}
use Rattle.slide.specs.Slides.{Seen, Round}
use Rattle.slide.proofs.Slides.{Starts}

-- ---- the largest of all

-- From tick t a strip arrives at a start of a run.
record Candidate (l m : List ℕ) (s k t : ℕ) : Type 0 where
  pub strip : ℕ
  pub few : strip < k
  pub start : Start l (length m) ((t + strip * s) % length m)

candidate :
    (l m : List ℕ) (s k t : ℕ) → Mapped l m → suc t < length m → fallen m s k t < fallen m s k (suc t) → Candidate l m s k (suc t)
unfolding Mapped
candidate l m s k t (z, laid, drawn) inside less =
    let w = length m in
    let same = met-drawn m z drawn (omega arith) s k in
    let on : suc t ≡ (t + 1) % w = sym (mod-eq_of_lt (omega arith) ∙ add-one t) in
    let r = rise w z s k t (suc t) (omega arith) on (omega (arith, same t, same (suc t))) in
    record { strip = r.strip; few = r.few; start = rise-start laid.lay r }

top_of :
    (l m : List ℕ) (s k c t i : ℕ) → Mapped l m → Round m s k → Starts l m s k c t i → length l ≤ i → Top m s k c t
top_of l m s k c t i mapped round starts all =
    let seen = go b.place (omega (arith, largest.inside)) (λ x less. rw largest.hit (largest.least x less)) in
    let most = largest.bound t (omega (arith, starts.hit.inside)) in
    let top : b.value ≡ c = omega (arith, starts.hit.count, seen.most, largest.hit) in
    let early : t ≤ b.place = seen.first (largest.hit ∙ top) in
    record {
      bound = λ x inside. omega (arith, largest.bound x (omega arith));
      inside = starts.hit.inside;
      hit = starts.hit.count;
      least = λ x less. omega (arith, largest.least x (omega arith));
    }
  where
    some : suc (length m - 1) ≡ length m
    some = omega (arith, round.sized.some)

    b : Best (fallen m s k) (suc (length m - 1))
    b = best (fallen m s k) (length m - 1)

    largest : Largest (fallen m s k) (suc (length m - 1)) b.value b.place
    largest = b.largest

    go : (x : ℕ) → x < length m → ((y : ℕ) → y < x → fallen m s k y < fallen m s k x) → Seen m s k c t x
    go zero inside higher = starts.zero
    go (suc x) inside higher =
        let found = candidate l m s k x mapped inside (higher x (omega arith)) in
        let start = found.start in
        starts.seen start.entry found.strip (suc x) (omega (arith, start.below)) start.even found.few inside (sym start.place)

-- ---- strips less than once round

pub round-of : {m : List ℕ} {h k : ℕ} → Sized m h k → Round m (h % length m) k
round-of {m} {h} sized =
    let step : h % length m < length m = mod-lt h sized.some in
    record {
      sized = record {
        some = sized.some;
        most = sized.most;
        period = omega (arith, sized.most);
        strips = sized.strips;
        bits = sized.bits;
      };
      step = step;
    }

pub top-all :
    {l m : List ℕ} {h k c t i : ℕ} → Mapped l m → Sized m h k → Starts l m (h % length m) k c t i → length l ≤ i → Top m h k c t
top-all mapped sized starts all = top-turns _ _ _ _ _ (top_of _ _ _ _ _ _ _ mapped (round-of sized) starts all)
