-- A straight piece of supply against the need, and the edges written for it.
--
-- In order: what a line comes to; where it crosses the need; the edges of a part. Not here: that supply is such a line. Assumes nothing.
use mathlib.Core.Path.{◌≡◌, refl, sym, ap, ◌∙◌}
use mathlib.Core.Logic.{◌⊎◌, inl, inr, ⊎_elim}
use mathlib.Core.List.{List}
use Prim.Native.Nat.{ℕ, zero, suc, ◌+◌, ◌-◌, ◌*◌, ◌%◌, ◌≤◌, ◌<◌, min}
use native.Mathlib.Nat.{mul-zero, mul-one, mul-le-mul_left}
use native.Mathlib.Omega.{arith}
use lib.Dec.{ltb}
use lib.ListN.{length, take}
use lib.Seq.{length-take-le}
use borrow.Author.Tests.{lt-ltb, le-ltb}
use Rattle.rules.specs.Sums.{Subset, bit}
use Rattle.rules.proofs.Sums.{le-or-lt, or_left, or_right}
use Rattle.runs.specs.Runs.{Lay, Turn}
use Rattle.runs.proofs.Edges.{lay-turn, lay-on}
use Rattle.late.specs.Pieces.{short, Slope, Line, Steady, Piece, Split, Stretch}

-- ---- what a line comes to

pub apart : (x low high : ℕ) → low < high → high ≤ 1 → (x * low ≡ 0) × (x * high ≡ x)
apart x low high less one =
    (ap (λ k. x * k) (omega arith) ∙ mul-zero x, ap (λ k. x * k) (omega arith) ∙ mul-one x)

pub within : (x k : ℕ) → k ≤ 1 → x * k ≤ x
within x k one = omega (arith, mul-le-mul_left x one, mul-one x)

module _ {v : ℕ → ℕ} {s near far m : ℕ} (line : Line v s near far m) (x : ℕ) (inside : x ≤ m) where
  line-rise : near < far → far ≤ 1 → v x ≡ s + x
  line-rise l one = omega (arith, line.at x inside, apart x near far l one)

  line-fall : far < near → near ≤ 1 → v x + x ≡ s
  line-fall l one = omega (arith, line.at x inside, apart x far near l one)

  line_low : far ≤ near → v x ≤ s
  line_low l = omega (arith, line.at x inside, mul-le-mul_left x l)

  line-high : near ≤ far → s ≤ v x
  line-high l = omega (arith, line.at x inside, mul-le-mul_left x l)

-- A line is lowest at an end.
pub line-lowest :
    {v : ℕ → ℕ} {s near far m : ℕ} → Line v s near far m → near ≤ 1 → (x : ℕ) → x ≤ m → min s (v m) ≤ v x
line-lowest {v} {s} {near} {far} {m} line one x inside =
    ⊎_elim
    (λ (up : near ≤ far). omega (arith, line-high line x inside up))
    (λ (down : far < near). omega (arith, line-fall line x inside down one, line-fall line m (omega arith) down one))
    (le-or-lt near far)

-- ---- where it crosses the need

bit-yes : (s need : ℕ) → s < need → bit (ltb s need) ≡ 1
unfolding bit
bit-yes s need l = ap bit (lt-ltb s need l)

bit-no : (s need : ℕ) → need ≤ s → bit (ltb s need) ≡ 0
unfolding bit
bit-no s need l = ap bit (le-ltb s need l)

module _ (v : ℕ → ℕ) (need side x : ℕ) where
  short-here : v x < need → bit (short v need side x) ≡ 1
  unfolding short bit
  short-here l = ap bit (or_left _ _ (lt-ltb (v x) need l))

  short-after : v (x + side) < need → bit (short v need side x) ≡ 1
  unfolding short bit
  short-after l = ap bit (or_right (ltb (v x) need) _ (lt-ltb (v (x + side)) need l))

  short-not : need ≤ v x → need ≤ v (x + side) → bit (short v need side x) ≡ 0
  unfolding short bit
  short-not h a = rw (le-ltb (v x) need h, le-ltb (v (x + side)) need a)

module _ (s need side near far m : ℕ) (slope : Slope s m near far) (half : side ≤ 1) where
  pub piece-rises : s < need → near < far → Piece s need side near far m (need - s) 1
  piece-rises low up =
      record {
        begins = sym (bit-yes s need low);
        early = λ v line x less soon.
            short-here v need side x (omega (arith, line-rise line x (omega arith) up slope.up));
        later = λ v line x less past.
            short-not v need side x
            (omega (arith, line-rise line x (omega arith) up slope.up))
            (omega (arith, line-rise line (x + side) (omega arith) up slope.up));
        ends = λ s' e past. bit-no s' need (omega (arith, e, apart m near far up slope.up));
      }

  pub piece-below : s < need → far ≤ near → Piece s need side near far m m 1
  piece-below low down =
      record {
        begins = sym (bit-yes s need low);
        early = λ v line x less soon.
            short-here v need side x (omega (arith, line_low line x (omega arith) down));
        later = λ v line x less past. absurd (omega arith);
        ends = λ s' e past. absurd (omega arith);
      }

  pub piece-falls : need ≤ s → far < near → Piece s need side near far m (s - need + (1 - side)) 0
  piece-falls high down =
      record {
        begins = sym (bit-no s need high);
        early = λ v line x less soon.
            short-not v need side x
            (omega (arith, line-fall line x (omega arith) down slope.down))
            (omega (arith, line-fall line (x + side) (omega arith) down slope.down));
        later = λ v line x less past.
            short-after v need side x (omega (arith, line-fall line (x + side) (omega arith) down slope.down));
        ends = λ s' e past. bit-yes s' need (omega (arith, e, apart m far near down slope.down));
      }

  pub piece-above : need ≤ s → near ≤ far → Piece s need side near far m m 0
  piece-above high up =
      record {
        begins = sym (bit-no s need high);
        early = λ v line x less soon.
            short-not v need side x
            (omega (arith, line-high line x (omega arith) up))
            (omega (arith, line-high line (x + side) (omega arith) up));
        later = λ v line x less past. absurd (omega arith);
        ends = λ s' e past. absurd (omega arith);
      }

-- ---- the edges of a part

-- An edge is written only where the parity asks for one.
turned : (n step r : ℕ) → step ≤ 1 → r ≤ n + 1 → r % 2 ≡ step → r ≤ n + (n + step) % 2
turned n step r one high parity = omega arith

pub lay-part :
    {l l' : List ℕ} {n at step r : ℕ} (k : ℕ) (z : Subset) → Turn l n at step r l' → n < length l → Lay (take n l) at z
    → ((x : ℕ) → x < k → bit (z (at + x)) ≡ step) → Lay (take r l') (at + k) z
lay-part {l} {l'} {n} {at} {step} {r} k z t room lay like =
    let long : length (take r l') ≡ r = length-take-le r l' (omega (arith, t.high, t.long)) in
    lay-on (take r l') at (at + k) z (lay-turn t lay) (omega arith) (λ x low high.
    let e : at + (x - at) ≡ x = omega arith in
    ap (λ y. bit (z y)) (sym e) ∙ like (x - at) (omega arith) ∙ sym t.parity ∙ ap (λ y. y % 2) (sym long))

module _ (l : List ℕ) (n at m gap first : ℕ) (one : first ≤ 1) where
  module _ (l' : List ℕ) (r : ℕ) (some : m ≡ 0 → ⊥) (room : n + min m 2 ≤ length l) where
    pub split-later : gap ≡ 0 → Turn l n at (1 - first) r l' → Split l n at m gap first r l'
    split-later none t =
        record {
          part = record { long = t.long; most = omega (arith, t.high) };
          laid = λ z lay early later. lay-part m z t (omega arith) lay (λ x less. later x less (omega arith));
          early = λ all. absurd (omega arith);
          later = λ past. (t.parity, omega (arith, t.high, t.parity));
        }

    pub split-first : m ≤ gap → Turn l n at first r l' → Split l n at m gap first r l'
    split-first all t =
        record {
          part = record { long = t.long; most = omega (arith, t.high) };
          laid = λ z lay early later. lay-part m z t (omega arith) lay (λ x less. early x less (omega arith));
          early = λ _. turned n first r one t.high t.parity;
          later = λ past. absurd (omega arith);
        }

    pub split-both :
        (r' : ℕ) (l'' : List ℕ) → (gap ≡ 0 → ⊥) → gap < m → Turn l n at first r l' → Turn l' r (at + gap) (1 - first) r' l''
        → Split l n at m gap first r' l''
    split-both r' l'' begun ends t t' =
        record {
          part = record { long = t'.long ∙ t.long; most = omega (arith, t.high, t'.high) };
          laid = λ z lay early later.
              let half : Lay (take r l') (at + gap) z =
              lay-part gap z t (omega arith) lay (λ x less. early x (omega arith) less) in
              let whole : Lay (take r' l'') (at + gap + (m - gap)) z =
              lay-part (m - gap) z t' (omega (arith, t.high, t.long)) half (λ x less.
              let e : at + (gap + x) ≡ at + gap + x = omega arith in
              ap (λ y. bit (z y)) (sym e) ∙ later (gap + x) (omega arith) (omega arith)) in
              let e : at + gap + (m - gap) ≡ at + m = omega arith in
              rw e at whole;
          early = λ all. absurd (omega arith);
          later = λ past. (t'.parity, omega (arith, turned n first r one t.high t.parity, t'.high));
        }

-- ---- a piece that doesn't cross the need

-- A line lies between its ends.
line-between :
    {v : ℕ → ℕ} {s near far m end : ℕ} → Line v s near far m → Slope s m near far → end + m * near ≡ s + m * far → (x : ℕ)
    → x ≤ m → ((v x ≤ s) × (end ≤ v x)) ⊎ ((s ≤ v x) × (v x ≤ end))
line-between {v} {s} {near} {far} {m} {end} line slope e x inside =
    ⊎_elim
    (λ (up : near ≤ far).
    ⊎_elim
    (λ (level : far ≤ near).
    let same : near ≡ far = omega arith in
    inr (line-high line x inside up, omega (arith, line_low line x inside level, ap (λ k. m * k) same)))
    (λ (rise : near < far).
    inr (line-high line x inside up, omega (arith, line-rise line x inside rise slope.up, apart m near far rise slope.up)))
    (le-or-lt far near))
    (λ (down : far < near).
    inl (line_low line x inside (omega arith), omega (arith, line-fall line x inside down slope.down, apart m far near down slope.down)))
    (le-or-lt near far)

pub stretch-steady :
    (l : List ℕ) (n at m s need side near far end : ℕ) → Slope s m near far → side ≤ 1 → end + m * near ≡ s + m * far
    → Steady (n % 2) s end need → n ≤ length l → Stretch l n at m s need side near far n l
stretch-steady l n at m s need side near far end slope half e steady room =
    record {
      part = record { long = refl; most = omega arith };
      few = λ s' _. omega arith;
      laid = λ z v lay line same.
          lay-on (take n l) at (at + m) z lay (omega arith) (λ x low high.
          let y : ℕ = x - at in
          let here : at + y ≡ x = omega arith in
          ap (λ i. bit (z i)) (sym here) ∙ ap bit (same y (omega arith))
          ∙ stays v line y (omega arith) (n % 2) refl (omega arith)
          ∙ ap (λ i. i % 2) (sym (length-take-le n l room)));
    }
  where
    stays : (v : ℕ → ℕ) → Line v s near far m → (x : ℕ) → x < m → (now : ℕ) → now ≡ n % 2 → now < 2 → bit (short v need side x) ≡ now
    stays v line x inside zero now few =
        let high = steady.painted (sym now) in
        short-not v need side x
        (⊎_elim (λ p. omega (arith, p.1, high.1)) (λ p. omega (arith, p.0, high.0)) (line-between line slope e x (omega arith)))
        (⊎_elim (λ p. omega (arith, p.1, high.1)) (λ p. omega (arith, p.0, high.0))
        (line-between line slope e (x + side) (omega arith)))
    stays v line x inside (suc zero) now few =
        let low = steady.late (sym now) in
        short-here v need side x
        (⊎_elim (λ p. omega (arith, p.0, low.0)) (λ p. omega (arith, p.1, low.1)) (line-between line slope e x (omega arith)))
    stays v line x inside (suc (suc now)) e few = absurd (omega arith)
