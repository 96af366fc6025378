-- A walk along the straight pieces of supply, with one cursor at a tick and one `rest` ticks on.
--
-- In order: supply between edges is a line; one stretch of a walk; the whole sweep. Every law of a walk holds for each set of ticks; what the code
-- needs of the numbers alone follows from one such set. Assumes nothing.
use mathlib.Core.Path.{◌≡◌, refl, sym, ap, ◌∙◌}
use mathlib.Core.Logic.{⊎_elim}
use mathlib.Core.Bool.{◌||◌}
use mathlib.Core.List.{List}
use Prim.Native.Nat.{ℕ, zero, suc, ◌+◌, ◌-◌, ◌*◌, ◌%◌, ◌≤◌, ◌<◌, min}
use native.Mathlib.Nat.{add-zero, add_assoc, zero-mul, suc-mul}
use native.Mathlib.Omega.{arith}
use lib.Dec.{ltb}
use lib.ListN.{length}
use Rattle.rules.specs.Sums.{Subset, bit}
use Rattle.rules.specs.Supply.{supply}
use Rattle.rules.proofs.Sums.{le-or-lt}
use Rattle.rules.proofs.Straight.{supply-next}
use Rattle.rules.proofs.Least.{lowest-on}
use Rattle.runs.specs.Runs.{edge}
use Rattle.runs.proofs.Edges.{edge-most}
use Rattle.counts.proofs.Windows.{supply-le}
use Rattle.late.specs.declared.Walk.{Walk}
use Rattle.late.specs.Pieces.{short, Line, Slope, off, Stretch}
use Rattle.late.specs.Late.{Cursor, Way, Walked, Walks, Outset, Swept, Passed}
use Rattle.late.proofs.Pieces.{line-lowest}
use Rattle.late.proofs.Cursors.{cursor-inside, cursor-moves}

-- ---- supply between edges

module _ (u : Subset) (rest a near far m : ℕ) where
  supply-at :
      ((x : ℕ) → x < m → bit (u (a + x)) ≡ near) → ((x : ℕ) → x < m → bit (u (a + x + rest)) ≡ far)
      → (x : ℕ) → x ≤ m → supply 1 u rest (a + x) + x * near ≡ supply 1 u rest a + x * far
  supply-at here there zero h = rw (add-zero a, zero-mul near, zero-mul far)
  supply-at here there (suc x) h =
      let e : supply 1 u rest (a + suc x) ≡ supply 1 u rest (a + x + 1) = ap (supply 1 u rest) (omega arith) in
      omega
      (arith, supply-next u rest (a + x), supply-at here there x (omega arith), here x h, there x h, suc-mul x near, suc-mul x far)

  pub supply-line :
      (s : ℕ) → s ≡ supply 1 u rest a → ((x : ℕ) → x < m → bit (u (a + x)) ≡ near)
      → ((x : ℕ) → x < m → bit (u (a + x + rest)) ≡ far) → Line (λ x. supply 1 u rest (a + x)) s near far m
  supply-line s e here there = record { at = λ x h. supply-at here there x h ∙ ap (λ n. n + x * far) (sym e) }

abbrev pub come : ℕ → ℕ → ℕ → ℕ → ℕ → ℕ → ℕ → Walk
come a b i j s low n =
    record { near = record { at = a; run = i }; far = record { at = b; run = j }; s = s; low = low; n = n }

-- ---- one stretch

-- From k to k' by m ticks, which is where a cursor first comes to the end of its run, at `here` or `there`.
pub record Step (y : Way) (here there m : ℕ) (k : Walk) (out : List ℕ) (k' : Walk) (out' : List ℕ) : Type 0 where
  pub near : here ≡ edge y.runs y.w (suc k.near.run)
  pub far : there ≡ edge y.part y.stop (suc k.far.run)
  pub first : m ≡ min (here - k.near.at) (there - k.far.at)
  pub on : k'.near.at ≡ k.near.at + m
  pub over : k'.far.at ≡ k.far.at + m
  pub drawn : Stretch out k.n k.near.at m k.s y.need y.side (k.near.run % 2) (k.far.run % 2) k'.n out'
  pub slides : k'.s + m * (k.near.run % 2) ≡ k.s + m * (k.far.run % 2)
  pub lower : k'.low ≡ min k.low k'.s
  pub ours : Passed k.near.run k'.near.at here k'.near.run
  pub theirs : Passed k.far.run k'.far.at there k'.far.run

part-le : (a b c : ℕ) → a + b ≡ c → b ≤ c
part-le a b c e = omega arith

sums_same : (a b c d : ℕ) → a + c ≡ d → b + c ≡ d → a ≡ b
sums_same a b c d p q = omega arith

-- What is known of the numbers alone.
pub record Known (y : Way) (k : Walk) : Type 0 where
  pub near : Cursor y.runs y.w k.near.run k.near.at
  pub far : Cursor y.part y.stop k.far.run k.far.at
  pub most : edge y.runs y.w (suc k.near.run) ≤ y.w
  pub last : edge y.part y.stop (suc k.far.run) ≤ y.stop
  pub small : k.s ≤ y.rest

module _ (y : Way) (k : Walk) (out : List ℕ) where
  walks-known : Walks y k out → Known y k
  unfolding Walks
  walks-known (u, h) =
      record {
        near = h.near;
        far = h.far;
        most = edge-most _ _ h.ours.order (suc k.near.run);
        last = edge-most _ _ h.theirs.order (suc k.far.run);
        small = omega (arith, h.supplied, supply-le u y.rest k.near.at);
      }

  walked_line :
      {u : Subset} → Walked y k out u → (m : ℕ) → k.near.at + m ≤ edge y.runs y.w (suc k.near.run)
      → k.far.at + m ≤ edge y.part y.stop (suc k.far.run) → Line (λ x. supply 1 u y.rest (k.near.at + x)) k.s (k.near.run % 2) (k.far.run % 2) m
  walked_line {u} h m here there =
      supply-line u y.rest k.near.at (k.near.run % 2) (k.far.run % 2) m k.s h.supplied
      (λ x less. h.ours.alike k.near.run (k.near.at + x) (omega (arith, h.near.low)) (omega arith))
      (λ x less.
      ap bit (h.turned x) ∙ h.theirs.alike k.far.run (k.far.at + x) (omega (arith, h.far.low)) (omega arith))

  -- Supply can't fall below 0.
  walks-fall :
      Walks y k out → (m : ℕ) → k.near.at + m ≤ edge y.runs y.w (suc k.near.run)
      → k.far.at + m ≤ edge y.part y.stop (suc k.far.run) → m * (k.near.run % 2) ≤ k.s + m * (k.far.run % 2)
  unfolding Walks
  walks-fall (u, h) m here there =
      part-le (supply 1 u y.rest (k.near.at + m)) (m * (k.near.run % 2)) _ ((walked_line h m here there).at m (omega arith))

  module _ (here there m : ℕ) (k' : Walk) (out' : List ℕ) (t : Step y here there m k out k' out') where
    -- A stretch stays within both runs.
    step-ours : Cursor y.runs y.w k.near.run k.near.at → k.near.at + m ≤ here
    step-ours h = omega (arith, t.first, t.near, h.high)

    step-theirs : Cursor y.part y.stop k.far.run k.far.at → k.far.at + m ≤ there
    step-theirs h = omega (arith, t.first, t.far, h.high)

    walked_next : (u : Subset) → Walked y k out u → Walked y k' out' u
    unfolding short
    walked_next u h =
        let here' = step-ours h.near in
        let there' = step-theirs h.far in
        let line : Line (λ x. supply 1 u y.rest (k.near.at + x)) k.s (k.near.run % 2) (k.far.run % 2) m =
        walked_line h m (omega (arith, t.near)) (omega (arith, t.far)) in
        let end : k'.s ≡ supply 1 u y.rest (k.near.at + m) =
        sums_same k'.s _ (m * (k.near.run % 2)) _ t.slides (line.at m (omega arith)) in
        record {
          ours = h.ours;
          theirs = h.theirs;
          turned = λ x.
              let e : k'.near.at + x + y.rest ≡ k.near.at + (m + x) + y.rest = omega (arith, t.on) in
              let g : k.far.at + (m + x) ≡ k'.far.at + x = omega (arith, t.over) in
              ap u e ∙ h.turned (m + x) ∙ ap u g;
          near = cursor-moves h.ours (omega (arith, t.on, h.near.low)) (omega (arith, t.on)) t.near t.ours;
          far = cursor-moves h.theirs (omega (arith, t.over, h.far.low)) (omega (arith, t.over)) t.far t.theirs;
          supplied = end ∙ ap (supply 1 u y.rest) (sym t.on);
          lowest =
              rw (t.lower, t.on)
              (lowest-on (supply 1 u y.rest) k.near.at m k.low k'.s h.lowest (sym end) (λ x less.
              omega (arith, h.supplied, end, line-lowest line (omega arith) x less)));
          laid =
              let z : Subset = short (supply 1 u y.rest) y.need y.side in
              let e : k.near.at + m ≡ k'.near.at = sym t.on in
              rw e at (t.drawn.laid z (λ x. supply 1 u y.rest (k.near.at + x)) h.laid line (λ x less.
              ap (λ b. ltb (supply 1 u y.rest (k.near.at + x)) y.need || ltb (supply 1 u y.rest b) y.need) (add_assoc k.near.at x y.side)));
        }

    walks_next : Walks y k out → Walks y k' out'
    unfolding Walks
    walks_next (u, h) = (u, walked_next u h)

    stuck :
        (a b : ℕ) → a ≡ k.near.at → b ≡ k.far.at → a ≤ here → b ≤ there → (k'.near.at ≡ here → ⊥) → (k'.far.at ≡ there → ⊥) → ⊥
    stuck a b p q near far x y =
        ⊎_elim
        (λ (h : here - k.near.at ≤ there - k.far.at). x (omega (arith, t.first, t.on)))
        (λ (h : there - k.far.at < here - k.near.at). y (omega (arith, t.first, t.over)))
        (le-or-lt (here - k.near.at) (there - k.far.at))

    -- One cursor moves on at least, and each by one run at most.
    step-moves :
        Known y k
        → (k.near.run + k.far.run < k'.near.run + k'.far.run) × (k'.near.run ≤ k.near.run + 1) × (k'.far.run ≤ k.far.run + 1)
    step-moves h =
        let a = step-ours h.near in
        let b = step-theirs h.far in
        ⊎_elim
        (λ (p : (k'.near.at ≡ here) × (k'.near.run ≡ k.near.run + 1)).
        ⊎_elim
        (λ (q : (k'.far.at ≡ there) × (k'.far.run ≡ k.far.run + 1)). omega (arith, p.1, q.1))
        (λ (q : (k'.far.at ≡ there → ⊥) × (k'.far.run ≡ k.far.run)). omega (arith, p.1, q.1))
        t.theirs)
        (λ (p : (k'.near.at ≡ here → ⊥) × (k'.near.run ≡ k.near.run)).
        ⊎_elim
        (λ (q : (k'.far.at ≡ there) × (k'.far.run ≡ k.far.run + 1)). omega (arith, p.1, q.1))
        (λ (q : (k'.far.at ≡ there → ⊥) × (k'.far.run ≡ k.far.run)).
        absurd (stuck k.near.at k.far.at refl refl (omega arith) (omega arith) p.0 q.0))
        t.theirs)
        t.ours

-- ---- the whole sweep

less-left : (p q i j i' j' : ℕ) → i + j < i' + j' → i' ≤ p → j' ≤ q → p - i' + (q - j') < p - i + (q - j)
less-left p q i j i' j' less a b = omega arith

-- A walk that set out at k₀ has come to k.
pub record Sweeping (y : Way) (k₀ : Walk) (out₀ : List ℕ) (k : Walk) (out : List ℕ) : Type 0 where
  pub long : length out ≡ length out₀
  pub level : k.near.at + k₀.far.at ≡ k₀.near.at + k.far.at
  pub few : k.n + off k.n k.s y.need + k₀.near.run + k₀.far.run ≤ k₀.n + off k₀.n k₀.s y.need + k.near.run + k.far.run
  pub thin : k.n + k₀.near.at ≤ k₀.n + k.near.at
  pub ours : k.near.run ≤ length y.runs + 1
  pub theirs : k.far.run ≤ length y.part + 1
  pub some : Walks y k out
  pub each : (u : Subset) → Walked y k₀ out₀ u → Walked y k out u

-- What a stretch of m ticks asks.
pub record Ready (y : Way) (k : Walk) (out : List ℕ) (m : ℕ) : Type 0 where
  pub on : k.near.at + m ≤ y.w
  pub over : k.far.at + m ≤ y.stop
  pub slope : Slope k.s m (k.near.run % 2) (k.far.run % 2)
  pub room : k.n + min m 2 ≤ length out

module _ {y : Way} {k₀ : Walk} {out₀ : List ℕ} {k : Walk} {out : List ℕ} (g : Sweeping y k₀ out₀ k out) where
  pub sweeping-known : Known y k
  sweeping-known = walks-known y k out g.some

  pub sweeping-end : y.stop ≤ k.far.at → Swept y k₀ out₀ k out
  sweeping-end end =
      let h = sweeping-known in
      record {
        long = g.long;
        level = g.level;
        end = omega (arith, h.far.high, h.last);
        few = g.few;
        thin = g.thin;
        ours = g.ours;
        theirs = g.theirs;
        each = g.each;
      }

  module _ (o : Outset y k₀ out₀) (less : k.far.at < y.stop) where
    -- Both cursors are within their lists.
    pub sweeping-ours : k.near.run ≤ length y.runs
    sweeping-ours =
        cursor-inside y.runs y.w k.near.run k.near.at sweeping-known.near.low (omega (arith, g.level, o.level))

    pub sweeping-theirs : k.far.run ≤ length y.part
    sweeping-theirs = cursor-inside y.part y.stop k.far.run k.far.at sweeping-known.far.low less

    pub sweeping-ready :
        (here there m : ℕ) → here ≡ edge y.runs y.w (suc k.near.run) → there ≡ edge y.part y.stop (suc k.far.run)
        → m ≡ min (here - k.near.at) (there - k.far.at) → Ready y k out m
    sweeping-ready here there m near far first =
        let h = sweeping-known in
        let here' : k.near.at + m ≤ here = let e = h.near.high in omega arith in
        let there' : k.far.at + m ≤ there = let e = h.far.high in omega arith in
        let on : k.near.at + m ≤ y.w = let e = h.most in omega arith in
        let i = sweeping-ours in
        let j = sweeping-theirs in
        record {
          on = on;
          over = let e = h.last in omega arith;
          slope = record {
            down = omega arith;
            up = omega arith;
            fall = walks-fall y k out g.some m (rw near at here') (rw far at there');
            most = omega (arith, h.small, o.bounds);
          };
          room =
              ⊎_elim
              (λ (few : k₀.n + off k₀.n k₀.s y.need + (length y.runs + 1) + (length y.part + 1) ≤ length out₀ + k₀.near.run + k₀.far.run).
              omega (arith, g.few, g.long))
              (λ (thin : k₀.n + y.w ≤ length out₀ + k₀.near.at). omega (arith, g.thin, g.long))
              o.room;
        }

    module _ {here there m : ℕ} {k' : Walk} {out' : List ℕ} (t : Step y here there m k out k' out') where
      pub sweeping-next : Sweeping y k₀ out₀ k' out'
      sweeping-next =
          let moves = step-moves y k out here there m k' out' t sweeping-known in
          record {
            long = t.drawn.part.long ∙ g.long;
            level = omega (arith, g.level, t.on, t.over);
            few = omega (arith, g.few, t.drawn.few k'.s t.slides, moves.0);
            thin = omega (arith, g.thin, t.drawn.part.most, t.on);
            ours = omega (arith, sweeping-ours, moves.1);
            theirs = omega (arith, sweeping-theirs, moves.2);
            some = walks_next y k out here there m k' out' t g.some;
            each = λ u h. walked_next y k out here there m k' out' t u (g.each u h);
          }

      pub sweeping-less :
          length y.runs + 1 - k'.near.run + (length y.part + 1 - k'.far.run) < length y.runs + 1 - k.near.run + (length y.part + 1 - k.far.run)
      sweeping-less =
          let moves = step-moves y k out here there m k' out' t sweeping-known in
          let next = sweeping-next in
          less-left (length y.runs + 1) (length y.part + 1) k.near.run k.far.run k'.near.run k'.far.run moves.0 next.ours next.theirs
