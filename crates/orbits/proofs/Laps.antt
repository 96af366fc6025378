-- Laps along orbits: a window of strips slid along a round, its largest rank, and from the largest rank of all laps to the largest count.
--
-- In order: peaks; strips counted one by one; the sliding window; counts by whole rounds; all orbits; from the largest rank to the largest count.
-- Assumes nothing.
use mathlib.Core.Path.{◌≡◌, refl, sym, ap, ◌∙◌}
use mathlib.Core.Logic.{⊎_elim}
use mathlib.Core.List.{List}
use Prim.Native.Nat.{ℕ, zero, suc, ◌+◌, ◌-◌, ◌*◌, ◌/◌, ◌%◌, ◌≤◌, ◌<◌, max, zero-le}
use native.Mathlib.Nat.{add-mod-mod, mod-lt, mod-le, div-le_self, div-add-mod', mul-le-mul_left, eq-or-lt_of_le, le_of_suc-le-suc, le_antisymm}
use native.Mathlib.Numerals.{add-one}
use native.Mathlib.Omega.{arith}
use lib.ListN.{length, get_or}
use Rattle.limits.specs.Limits.{most_ticks, most_in_rounds}
use Rattle.rules.specs.Sums.{Largest}
use Rattle.rules.proofs.Sums.{le-or-lt}
use Rattle.maps.specs.Maps.{strips, fallen, Top}
use Rattle.maps.proofs.Strips.{strips-back, fallen-none, fallen-more, fallen-most}
use Rattle.maps.proofs.Places.{place-first, place-next, place-before}
use Rattle.divisor.specs.Divisor.{Gcd}
use Rattle.divisor.proofs.Divisor.{gcd-some, gcd-most}
use Rattle.orbits.specs.Orbits.{Ring, place, peak, ranked, most_rank, rank_at, Lapped}
use Rattle.orbits.specs.declared.Tour.{Tour}
use Rattle.orbits.proofs.Rounds.{round-home, round-some, strips-round, round-turned, on-orbit}

-- ---- peaks

peak-more : (f : ℕ → ℕ) (n : ℕ) → peak f (n + 1) ≡ max (peak f n) (f n)
unfolding peak
peak-more f n = rw add-one refl

peak-bound : (f : ℕ → ℕ) (n i : ℕ) → i < n → f i ≤ peak f n
unfolding peak
peak-bound f zero i l = absurd (omega arith)
peak-bound f (suc n) i l =
    ⊎_elim
    (λ (e : i ≡ n). omega (arith, ap f e))
    (λ m. omega (arith, peak-bound f n i m))
    (eq-or-lt_of_le (le_of_suc-le-suc l))

peak-most : (f : ℕ → ℕ) (n most : ℕ) → ((i : ℕ) → i < n → f i ≤ most) → peak f n ≤ most
unfolding peak
peak-most f zero most h = zero-le
peak-most f (suc n) most h = omega (arith, peak-most f n most (λ i l. h i (omega arith)), h n (omega arith))

-- Where the peak is reached.
record Peaks (f : ℕ → ℕ) (n : ℕ) : Type 0 where
  pub at : ℕ
  pub below : at < n
  pub hit : f at ≡ peak f n

peak-hit : (f : ℕ → ℕ) (n : ℕ) → 0 < n → Peaks f n
unfolding peak
peak-hit f zero some = absurd (omega arith)
peak-hit f (suc zero) some = record { at = 0; below = omega arith; hit = omega arith }
peak-hit f (suc (suc n)) some =
    ⊎_elim
    (λ (new : peak f (suc n) ≤ f (suc n)). record { at = suc n; below = omega arith; hit = omega arith })
    (λ (old : f (suc n) < peak f (suc n)).
    let before = peak-hit f (suc n) (omega arith) in
    record { at = before.at; below = omega (arith, before.below); hit = omega (arith, before.hit) })
    (le-or-lt (peak f (suc n)) (f (suc n)))

-- ---- strips counted one by one

-- The first i of n strips from p on are counted, and the next arrives at `at`.
pub record Walked (m : List ℕ) (s n p at met i : ℕ) : Type 0 where
  pub some : i ≤ n
  pub inside : at < length m
  pub here : at ≡ place (length m) s p i
  pub count : met ≡ fallen m s i p

pub walk_start : {m : List ℕ} {p : ℕ} (s n : ℕ) → p < length m → Walked m s n p p 0 0
walk_start {m} {p} s n inside =
    record { some = zero-le; inside = inside; here = sym (place-first s inside); count = sym (fallen-none m s p) }

-- r is s places on from a: what `maps::onward` gives.
abbrev On : ℕ → ℕ → ℕ → ℕ → Type 0
On w a s r = (r ≡ (a + s) % w) × (r < w)

on-place : (w s c i : ℕ) {p p' : ℕ} → p ≡ place w s c i → On w p s p' → p' ≡ place w s c (i + 1)
on-place w s c i here on = on.0 ∙ ap (λ x. (x + s) % w) here ∙ place-next w c i s

pub walk-next :
    {m : List ℕ} {s n p at met i x at' : ℕ} → Walked m s n p at met i → i < n → x ≡ get_or m at 0 → On (length m) at s at'
    → Walked m s n p at' (met + x) (i + 1)
walk-next {m} {s} {n} {p} {at} {met} {i} w less bit on =
    record {
      some = omega arith;
      inside = on.1;
      here = on-place (length m) s p i w.here on;
      count = omega (arith, w.count, fallen-more m s i p, bit, ap (λ a. get_or m a 0) w.here);
    }

pub walk-few : {m : List ℕ} {s n p at met i : ℕ} → ((a : ℕ) → get_or m a 0 ≤ 1) → Walked m s n p at met i → met ≤ i
walk-few {m} {s} {p = p} {i = i} bits w = omega (arith, w.count, fallen-most m s i p bits)

pub walk_end :
    {m : List ℕ} {s n p at met i : ℕ} → ((a : ℕ) → get_or m a 0 ≤ 1) → Walked m s n p at met i → n ≤ i
    → (met ≡ fallen m s n p) × (met ≤ n)
walk_end {m} {s} {n} {p} {i = i} bits w end =
    let e : i ≡ n = le_antisymm w.some end in
    (w.count ∙ ap (λ a. fallen m s a p) e, omega (arith, walk-few bits w))

-- ---- the sliding window

-- The round's first i strips are counted, the next arrives at p; so are the n strips from p on, and q is behind their last.
pub record Lapping (m : List ℕ) (s n r c drops p q round top i : ℕ) : Type 0 where
  pub walked : Walked m s r c p round i
  pub inside : q < length m
  pub behind : q ≡ place (length m) s p n
  pub window : drops ≡ fallen m s n p
  pub highest : top ≡ peak (rank_at m s n c) i

pub lap-start :
    {m : List ℕ} {c drops q : ℕ} (s n r : ℕ) → c < length m → drops ≡ fallen m s n c → On (length m) c (n * s % length m) q
    → Lapping m s n r c drops c q 0 0 0
unfolding peak
lap-start {m} {c} s n r inside count on =
    record {
      walked = walk_start s r inside;
      inside = on.1;
      behind = on.0 ∙ add-mod-mod c (n * s) (length m);
      window = count;
      highest = refl;
    }

module _ {m : List ℕ} {s n r c drops p q round top i : ℕ} (l : Lapping m s n r c drops p q round top i) where
  pub lap-few : ((a : ℕ) → get_or m a 0 ≤ 1) → drops ≤ n
  lap-few bits = omega (arith, l.window, fallen-most m s n p bits)

  -- One step on: the strip at q comes in, the one at p is taken off.
  lap-step : {p' : ℕ} → On (length m) p s p' → drops + get_or m q 0 ≡ fallen m s n p' + get_or m p 0
  unfolding fallen
  lap-step on = omega (arith, l.window, strips-back (λ a. get_or m a 0) (length m) s n l.walked.inside on.0 l.behind)

  -- The strip that is taken off was counted.
  pub lap-counted : get_or m p 0 ≤ drops + get_or m q 0
  lap-counted = omega (arith, lap-step (refl, mod-lt (p + s) {m = length m} (omega (arith, l.inside))))

  lap-rank : ranked drops p ≡ rank_at m s n c i
  unfolding rank_at
  lap-rank = ap (λ d. ranked d p) l.window ∙ ap (λ x. ranked (fallen m s n x) x) l.walked.here

  pub lap-next :
      {here last p' q' top' : ℕ} → i < r → here ≡ get_or m p 0 → last ≡ get_or m q 0 → On (length m) p s p' → On (length m) q s q'
      → top' ≡ max top (ranked drops p) → Lapping m s n r c (drops + last - here) p' q' (round + here) top' (i + 1)
  lap-next less first last front back most =
      record {
        walked = walk-next l.walked less first front;
        inside = back.1;
        behind = on-place (length m) s p n l.behind back ∙ place-before (length m) _ p n s front.0;
        window = omega (arith, lap-step front);
        highest = omega (arith, most, l.highest, lap-rank, peak-more (rank_at m s n c) i);
      }

-- ---- counts by whole rounds

module _ (m : List ℕ) {s g : ℕ} (k : ℕ) (some : 0 < length m) (d : Gcd (length m) s g) where
  pub counted :
      (p : ℕ) → fallen m s k p ≡ k / (length m / g) * fallen m s (length m / g) p + fallen m s (k % (length m / g)) p
  unfolding fallen
  counted p =
      let r = length m / g in
      let f : ℕ → ℕ = λ a. get_or m a 0 in
      ap (λ n. strips f (length m) s n p) (sym (div-add-mod' k r))
      ∙ strips-round f (length m) s r (k / r) (k % r) p some (round-home (length m) s g some d)

  round_same : (c i : ℕ) → fallen m s (length m / g) (place (length m) s c i) ≡ fallen m s (length m / g) c
  unfolding fallen
  round_same c i = round-turned (λ a. get_or m a 0) (length m) s (length m / g) c i some (round-home (length m) s g some d)

  -- The rank of a tick of the orbit from c on.
  orbit-rank :
      (c i : ℕ) → ranked (fallen m s k (place (length m) s c i)) (place (length m) s c i)
      ≡ k / (length m / g) * fallen m s (length m / g) c * most_ticks + rank_at m s (k % (length m / g)) c i
  unfolding rank_at
  orbit-rank c i = omega (arith, counted (place (length m) s c i), ap (λ x. k / (length m / g) * x) (round_same c i))

-- ---- all orbits

pub ring_of : {m : List ℕ} {h k n : ℕ} → Ring m h k → n ≤ k → Ring m (h % length m) n
ring_of {m} {h} ring few =
    record {
      some = ring.some;
      most = ring.most;
      period = omega (arith, mod-lt h ring.some, ring.most);
      strips = omega (arith, ring.strips);
      bits = ring.bits;
    }

pub round-most : {w s g : ℕ} → Gcd w s g → w / g ≤ w
round-most {w} {g = g} d = div-le_self w g

-- The largest rank along the orbit from c on, of k strips in rounds of r.
unfoldable pub orbit_top : List ℕ → ℕ → ℕ → ℕ → ℕ → ℕ
orbit_top m s k r c = k / r * fallen m s r c * most_ticks + peak (rank_at m s (k % r) c) r

-- The orbits from 0 to c − 1 are gone along.
pub record Orbiting (m : List ℕ) (s k r g best c : ℕ) : Type 0 where
  pub few : c ≤ g
  pub highest : best ≡ peak (orbit_top m s k r) c

pub orbits-none : (m : List ℕ) (s k r g : ℕ) → Orbiting m s k r g 0 0
unfolding peak
orbits-none m s k r g = record { few = zero-le; highest = refl }

-- What `lap` asks for.
pub lap-asked :
    {m : List ℕ} {h k g c : ℕ} → Ring m h k → Gcd (length m) (h % length m) g → c < g
    → (c < length m) × (length m / g ≤ length m) × (k % (length m / g) ≤ length m) × (k % (length m / g) ≤ k)
lap-asked {m} {h} {k} {g} ring d less =
    let r = length m / g in
    let short = round-most d in
    let left = mod-lt k (round-some (length m) (h % length m) g ring.some d) in
    (omega (arith, gcd-most d ring.some), short, omega arith, mod-le k r)

-- One orbit more: a round as often as it fits, and the largest rank of a window.
module _
    {m : List ℕ} {s r c rounds : ℕ} {l : Tour} (k : ℕ) (often : rounds ≡ k / r) (lapped : Lapped m s (k % r) r c l) where
  round-drops : rounds * l.round ≡ k / r * fallen m s r c
  round-drops = rw (often, lapped.round) refl

  pub lapped-fits : Ring m s k → (rounds * l.round ≤ most_in_rounds) × (l.top ≤ most_rank)
  unfolding rank_at
  lapped-fits ring =
      let some = ring.strips in
      let few = mul-le-mul_left (k / r) (fallen-most m s r c ring.bits) in (
        omega (arith, few, div-add-mod' k r, round-drops),
        omega (
          arith,
          lapped.top,
          peak-most (rank_at m s (k % r) c) r most_rank (λ i _.
              omega (arith, fallen-most m s (k % r) (place (length m) s c i) ring.bits, mod-le k r)),
        ),
      )

  pub orbits-next :
      {g best x best' : ℕ} → Orbiting m s k r g best c → c < g → x ≡ rounds * l.round * most_ticks + l.top → best' ≡ max best x
      → Orbiting m s k r g best' (c + 1)
  unfolding orbit_top
  orbits-next o less rank most =
      record {
        few = omega arith;
        highest = omega (arith, o.highest, most, rank, round-drops, lapped.top, peak-more (orbit_top m s k r) c);
      }

-- ---- from the largest rank to the largest count

largest-ranked :
    (f : ℕ → ℕ) (w best p : ℕ) → w ≤ most_ticks → ((i : ℕ) → i < w → ranked (f i) i ≤ best) → p < w → ranked (f p) p ≡ best
    → Largest f w (best / most_ticks) (most_ticks - 1 - best % most_ticks)
largest-ranked f w best p most bound inside hit =
    let drops : best / most_ticks ≡ f p = omega arith in
    let at : most_ticks - 1 - best % most_ticks ≡ p = omega arith in
    rw (drops, at)
    (record {
      bound = λ i l. omega (arith, bound i l);
      inside = inside;
      hit = refl;
      least = λ i l. omega (arith, bound i (omega arith));
    })

pub orbits-end :
    {m : List ℕ} {s k g best c : ℕ} → Ring m s k → Gcd (length m) s g → Orbiting m s k (length m / g) g best c → g ≤ c
    → Top m s k (best / most_ticks) (most_ticks - 1 - best % most_ticks)
unfolding orbit_top
orbits-end {m} {s} {k} {g} {best} {c} ring d o end =
    largest-ranked (fallen m s k) (length m) best (place (length m) s orbit.at strip.at) ring.most bound
    (mod-lt _ ring.some) reached
  where
    r : ℕ
    r = length m / g

    all : best ≡ peak (orbit_top m s k r) g
    all = o.highest ∙ ap (peak (orbit_top m s k r)) (le_antisymm o.few end)

    orbit : Peaks (orbit_top m s k r) g
    orbit = peak-hit (orbit_top m s k r) g (gcd-some d ring.some)

    strip : Peaks (rank_at m s (k % r) orbit.at) r
    strip = peak-hit (rank_at m s (k % r) orbit.at) r (round-some (length m) s g ring.some d)

    reached :
        ranked (fallen m s k (place (length m) s orbit.at strip.at)) (place (length m) s orbit.at strip.at) ≡ best
    reached = omega (arith, orbit-rank m k ring.some d orbit.at strip.at, strip.hit, orbit.hit, all)

    bound : (p : ℕ) → p < length m → ranked (fallen m s k p) p ≤ best
    bound p inside =
        let on = on-orbit (length m) s g p ring.some d inside in
        let rank = rw on.place at (orbit-rank m k ring.some d on.start on.strip) in
        omega (
          arith,
          rank,
          peak-bound (rank_at m s (k % r) on.start) r on.strip on.few,
          peak-bound (orbit_top m s k r) g on.start on.below,
          all,
        )

pub top-few : {m : List ℕ} {s k c t : ℕ} → Ring m s k → Top m s k c t → c ≤ k
top-few {m} {s} {k} {t = t} ring top = omega (arith, top.hit, fallen-most m s k t ring.bits)
