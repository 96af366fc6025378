-- All around the wheel in two sweeps, and what its answer says of strips.
--
-- In order: where the first sweep starts; where the second one does; both together; the need that is left; drops. Assumes nothing.
use mathlib.Core.Path.{◌≡◌, refl, sym, ap, ◌∙◌}
use mathlib.Core.Logic.{◌⊎◌, inl, inr, ⊎_elim}
use mathlib.Core.Bool.{Bool, true, false, ◌||◌}
use mathlib.Core.List.{List}
use Prim.Native.Nat.{ℕ, ◌+◌, ◌-◌, ◌*◌, ◌/◌, ◌%◌, ◌≤◌, ◌<◌, min}
use native.Mathlib.Nat.{add-zero, one-mul, le_of_eq}
use native.Mathlib.Omega.{arith}
use lib.Dec.{ltb}
use lib.IntN.{ℤ, sub_ℕ}
use lib.ListN.{length, take}
use lib.Seq.{length-take-le}
use Rattle.rules.specs.Sums.{Subset, bit, number, Lowest}
use Rattle.rules.specs.Supply as rules
use Rattle.rules.specs.Worst.{Wheel}
use Rattle.rules.specs.Least.{Least}
use Rattle.rules.specs.Supply.{supply, dropped}
use Rattle.rules.proofs.Sums.{le-or-lt, number-none}
use Rattle.rules.proofs.Straight.{windows}
use Rattle.rules.proofs.Step.{ltb-same, dropped-ltb, dropped-even, dropped-odd, dropped-turns}
use Rattle.rules.proofs.Least.{least-of-ticks}
use Rattle.limits.specs.Limits.{asked}
use Rattle.limits.specs.declared.Task.{Task}
use Rattle.runs.specs.Runs.{Lay, Laid, Runs}
use Rattle.runs.proofs.Edges.{lay-none}
use Rattle.counts.proofs.Windows.{supply-le, window-split}
use Rattle.late.specs.declared.Walk.{Walk}
use Rattle.late.specs.Pieces.{short}
use Rattle.late.specs.Late.{need_in, Cursor, Way, way, Walked, Walks, Bounds, Outset, Swept, late_room, Laying, LateIn}
use Rattle.late.proofs.Sweeps.{come}
use Rattle.late.proofs.Cursors.{edge-first, cursor-inside, lay-before}

cursor-first : (l : List ℕ) (to : ℕ) → Cursor l to 0 0
cursor-first l to = record { low = omega (arith, edge-first l to); high = omega arith }

-- Before the wheel's end a cursor is within the list.
pub within : {l : List ℕ} {w j rest : ℕ} → Cursor l w j rest → rest < w → j ≤ length l
within {l} {w} {j} {rest} far short = cursor-inside l w j rest far.low short

-- What both sweeps stand on: the far cursor starts in run j, and s ticks of the first window are usable.
pub record Ground (l : List ℕ) (w rest side : ℕ) (out : List ℕ) (j s : ℕ) : Type 0 where
  pub runs : Runs l w
  pub bounds : Bounds w rest side
  pub room : min (late_room (length l)) w ≤ length out
  pub far : Cursor l w j rest
  pub all : (u : Subset) → Laid l w u → s ≡ number u rest

one_of : (a b c : ℕ) → min a b ≤ c → (a ≤ c) ⊎ (b ≤ c)
one_of a b c h = ⊎_elim (λ (l : a ≤ b). inl (omega arith)) (λ (l : b < a). inr (omega arith)) (le-or-lt a b)

module _ {l : List ℕ} {w rest side : ℕ} {out : List ℕ} {j s : ℕ} (need : ℕ) (g : Ground l w rest side out j s) where
  -- ---- the first sweep

  abbrev pub first : Walk
  first = come 0 rest 0 j s s 0

  abbrev pub before : Way
  before = way l w l w rest need side

  supplied-first : (u : Subset) → Laid l w u → s ≡ supply 1 u rest 0
  supplied-first u laid =
      let same : number u (0 + rest) ≡ number u rest = ap (number u) (omega arith) in
      omega (arith, g.all u laid, windows u rest 0, number-none u)

  walked-first : (u : Subset) → Laid l w u → Walked before first out u
  walked-first u laid =
      record {
        ours = laid.lay;
        theirs = laid.lay;
        turned = λ x. ap u (omega arith);
        near = cursor-first l w;
        far = g.far;
        supplied = supplied-first u laid;
        lowest = record {
          bound = λ x l. let e : x ≡ 0 = omega arith in rw e (le_of_eq (supplied-first u laid));
          place = 0;
          inside = omega arith;
          hit = sym (supplied-first u laid);
        };
        laid = lay-none _;
      }

  walks-first : Runs l w → Walks before first out
  unfolding Runs Walks
  walks-first (u, laid) = (u, walked-first u laid)

  inside : j ≤ length l
  inside = within g.far g.bounds.below

  pub outset-first : Outset before first out
  outset-first =
      record {
        walks = walks-first g.runs;
        bounds = g.bounds;
        level = omega arith;
        ours = omega arith;
        theirs = omega (arith, inside);
        room =
            ⊎_elim
            (λ (few : late_room (length l) ≤ length out). inl (omega arith))
            (λ (thin : w ≤ length out). inr (omega arith))
            (one_of _ _ _ g.room);
      }

  -- ---- the second sweep

  module _ {k : Walk} {out' : List ℕ} (t : Swept before first out k out') where
    abbrev pub second : Walk
    second = come k.near.at 0 k.near.run 0 k.s k.low k.n

    abbrev pub behind : Way
    behind = way l w (take j l) rest rest need side

    long : length (take j l) ≡ j
    long = length-take-le j l inside

    walked-second : (u : Subset) → Laid l w u → Walked behind second out' u
    walked-second u laid =
        let h = t.each u (walked-first u laid) in
        record {
          ours = laid.lay;
          theirs = lay-before laid.lay g.far inside;
          turned = λ x.
              let e : k.near.at + x + rest ≡ x + w = omega (arith, t.level, t.end) in
              ap u e ∙ laid.wheel.turns x ∙ ap u (omega arith);
          near = h.near;
          far = cursor-first (take j l) rest;
          supplied = h.supplied;
          lowest = h.lowest;
          laid = h.laid;
        }

    walks-second : Runs l w → Walks behind second out'
    unfolding Runs Walks
    walks-second (u, laid) = (u, walked-second u laid)

    pub outset-second : Outset behind second out'
    outset-second =
        record {
          walks = walks-second g.runs;
          bounds = g.bounds;
          level = omega (arith, t.level, t.end);
          ours = t.ours;
          theirs = omega arith;
          room =
              ⊎_elim
              (λ (few : late_room (length l) ≤ length out). inl (omega (arith, long, t.few, t.long, t.theirs)))
              (λ (thin : w ≤ length out). inr (omega (arith, t.thin, t.long)))
              (one_of _ _ _ g.room);
        }

    -- ---- both together

    pub round : {k' : Walk} {out'' : List ℕ} → Swept behind second out' k' out'' → Laying l w rest need side out k'.n k'.low out''
    round {k'} t' =
        let end : k'.near.at ≡ w = omega (arith, t.level, t.end, t'.level, t'.end) in
        let few : k'.n ≤ late_room (length l) =
        omega (arith, long, t.few, t.theirs, t'.few, t'.ours, t'.theirs) in
        let thin : k'.n ≤ w = omega (arith, t.thin, t'.thin) in
        record {
          long = t'.long ∙ t.long;
          few = omega arith;
          laid = λ u laid. rw end at (t'.each u (walked-second u laid)).laid;
          lowest = λ u laid. rw end at (t'.each u (walked-second u laid)).lowest;
        }

-- ---- the need that is left

-- Within the rest window the need that is left says the same as the whole need.
need-same : (turned rest e x : ℕ) → x ≤ rest → ltb x (need_in turned rest e) ≡ ltb (turned + x) (1 * e)
unfolding need_in
need-same turned rest e x h =
    rw one-mul (ltb-same x (min (e - turned) (rest + 1)) (turned + x) e (λ p. omega arith) (λ p. omega arith))

pub need-le : (turned rest e : ℕ) → need_in turned rest e ≤ e
unfolding need_in
need-le turned rest e = omega arith

-- ---- drops

or_same : (b : Bool) → (b || b) ≡ b
or_same true = refl
or_same false = refl

module _ (w : ℕ) (u : Subset) (wheel : Wheel w u) (t : rules.Task) (turned : ℕ) (e : turned ≡ t.D / w * number u w) where
  whole : (a : ℕ) → turned + supply 1 u (t.D % w) a ≡ supply 1 u t.D a
  whole a = ap (λ n. n + supply 1 u (t.D % w) a) e ∙ window-split w u wheel t.D a

  -- Whole turns give the same everywhere.
  least-margin : (low : ℕ) → Lowest (supply 1 u (t.D % w)) w low → Least w u t (sub_ℕ (turned + low) t.e)
  least-margin low h =
      least-of-ticks w u wheel t (turned + low)
      (record {
        bound = λ x l. omega (arith, whole x, h.bound x l);
        place = h.place;
        inside = h.inside;
        hit = omega (arith, whole h.place, h.hit);
      })

  tick-same : (a : ℕ) → ltb (supply 1 u (t.D % w) a) (need_in turned (t.D % w) t.e) ≡ dropped 1 u t a
  tick-same a =
      need-same turned (t.D % w) t.e (supply 1 u (t.D % w) a) (supply-le u (t.D % w) a)
      ∙ ap (λ n. ltb n (1 * t.e)) (whole a)
      ∙ sym (dropped-ltb 1 u t a)

  side_same :
      (side a : ℕ) → (side ≡ 0) ⊎ (side ≡ 1)
      → short (supply 1 u (t.D % w)) (need_in turned (t.D % w) t.e) side a ≡ dropped 2 u t (2 * a + side)
  unfolding short
  side_same side a (inl z) =
      rw (z, add-zero a, add-zero (2 * a)) (or_same _ ∙ tick-same a ∙ sym (dropped-even u t a))
  side_same side a (inr z) =
      rw (z, tick-same a, tick-same (a + 1)) (sym (dropped-odd u t a))

  drops-wheel : (side : ℕ) → Wheel w (λ a. dropped 2 u t (2 * a + side))
  drops-wheel side =
      record {
        some = wheel.some;
        turns = λ x.
            let e : 2 * (x + w) + side ≡ 2 * x + side + 2 * (1 * w) = omega arith in
            ap (dropped 2 u t) e ∙ dropped-turns w u wheel 2 t 1 (2 * x + side) (omega arith);
      }

lay-like : {l : List ℕ} {to : ℕ} {u z : Subset} → Lay l to u → ((x : ℕ) → u x ≡ z x) → Lay l to z
lay-like lay same = record { order = lay.order; alike = λ i x low high. ap bit (sym (same x)) ∙ lay.alike i x low high }

-- A window of less than a turn holds no more than its ticks.
pub low_small :
    (l : List ℕ) (w rest need side : ℕ) (out : List ℕ) (r low : ℕ) (out' : List ℕ) → Runs l w
    → Laying l w rest need side out r low out' → low ≤ rest
unfolding Runs
low_small l w rest need side out r low out' (u, laid) h =
    let lowest = h.lowest u laid in
    omega (arith, lowest.hit, supply-le u rest lowest.place)

pub late-round :
    (l : List ℕ) (w : ℕ) (t : Task) (side turned need : ℕ) (out : List ℕ) (r low : ℕ) (margin : ℤ) (out' : List ℕ) → side ≤ 1
    → min (late_room (length l)) w ≤ length out → ((u : Subset) → Laid l w u → turned ≡ t.d / w * number u w)
    → need ≡ need_in turned (t.d % w) t.e → Laying l w (t.d % w) need side out r low out'
    → margin ≡ sub_ℕ (turned + low) t.e → LateIn l w t side out r margin out'
late-round l w t side turned need out r low margin out' half room turns e h is =
    record {
      long = h.long;
      room = omega (arith, h.few, h.long);
      few = h.few;
      laid = λ u laid.
          record {
            wheel = drops-wheel w u laid.wheel (asked t) turned (turns u laid) side;
            most = laid.most;
            lay = lay-like (h.laid u laid) (λ a.
                rw e (side_same w u laid.wheel (asked t) turned (turns u laid) side a sides));
          };
      least = λ u laid. rw is (least-margin w u laid.wheel (asked t) turned (turns u laid) low (h.lowest u laid));
    }
  where
    sides : (side ≡ 0) ⊎ (side ≡ 1)
    sides = ⊎_elim (λ (p : side ≤ 0). inl (omega arith)) (λ (p : 0 < side). inr (omega arith)) (le-or-lt side 0)
