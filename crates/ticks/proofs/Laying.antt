-- Laying a table out slot by slot, whose slots stand in the order of time. Assumes nothing.
use mathlib.Core.Path.{◌≡◌, sym, ap, ◌∙◌}
use mathlib.Core.Logic.{⊎_elim}
use mathlib.Core.Bool.{true, false, cond}
use mathlib.Core.List.{List}
use Prim.Native.Nat.{ℕ, zero, suc, ◌+◌, ◌-◌, ◌*◌, ◌≤◌, ◌<◌}
use native.Mathlib.Nat.{le_refl, le_trans, eq-or-lt_of_le}
use native.Mathlib.Numerals.{add-one}
use native.Mathlib.Omega.{arith}
use lib.ListN.{length}
use Rattle.limits.specs.Limits.{most_ticks}
use Rattle.rules.specs.Sums.{bit}
use Rattle.rules.specs.Usable.{Table, opens, usable}
use Rattle.rules.proofs.Sums.{le-or-lt}
use Rattle.rules.proofs.Total.{slots-turn}
use Rattle.runs.specs.Runs.{LaidIn}
use Rattle.ticks.specs.Ticks.{Span, Slotted, met_at, opens_at}
use Rattle.ticks.proofs.Spans.{Come, come-none, come-on, come-slot, come-round}
use Rattle.ticks.proofs.Order.{ended, Ordered, end-inside, gap-ticks, others-ticks, lost-ticks, ours-ticks, opens-is, opens-joined, opens-inside}

-- A table in order, and a buffer with room for two edges a slot.
pub record Lays (w : ℕ) (s : Table) (l : List ℕ) : Type 0 where
  pub order : Ordered w s
  pub some : 0 < w
  pub most : w ≤ most_ticks
  pub room : 2 * s.size ≤ length l
  pub one : 0 < length l

-- The buffer has come to tick `at`, where the painter's last slot before slot i ends, with at most an edge for each start and each end but the
-- last. Up to slot i's neighbour no tick behind that is usable.
pub record Laying (w : ℕ) (s : Table) (l₀ l : List ℕ) (n at met i : ℕ) : Type 0 where
  pub lays : Lays w s l₀
  pub upto : i ≤ s.size
  pub behind : at ≤ ended s i
  pub idle : (x : ℕ) → at ≤ x → x < ended s i → usable w s x ≡ false
  pub meets : met ≡ met_at w s i
  pub few : n < 2 * i + (1 - i)
  pub come : Come (usable w s) l₀ l n at

-- Slots i to k, all the painter's, each of which starts where the one before it ends.
pub record Row (s : Table) (i k : ℕ) : Type 0 where
  pub some : i ≤ k
  pub inside : k < s.size
  pub mine : (y : ℕ) → i ≤ y → y ≤ k → s.ours y ≡ true
  pub joined : (y : ℕ) → i ≤ y → y < k → (s.slot y).end ≡ (s.slot (suc y)).start

pub row_one : (s : Table) (i : ℕ) → i < s.size → s.ours i ≡ true → Row s i i
row_one s i less mine =
    record {
      some = le_refl i;
      inside = less;
      mine = λ y low high. let same : y ≡ i = omega arith in rw same mine;
      joined = λ y low high. absurd (omega arith);
    }

row-shorter : (s : Table) (i k : ℕ) → Row s i (suc k) → i ≤ k → Row s i k
row-shorter s i k r some =
    record {
      some = some;
      inside = omega (arith, r.inside);
      mine = λ y low high. r.mine y low (omega arith);
      joined = λ y low high. r.joined y low (omega arith);
    }

pub laying-start : (w : ℕ) (s : Table) (l : List ℕ) (met : ℕ) → Lays w s l → met ≡ met_at w s 0 → Laying w s l l 0 0 met 0
unfolding ended
laying-start w s l met lays e =
    record {
      lays = lays;
      upto = omega arith;
      behind = le_refl 0;
      idle = λ x low high. absurd (omega arith);
      meets = e;
      few = omega arith;
      come = come-none _ l;
    }

module _ (w : ℕ) (s : Table) (l₀ l : List ℕ) (n at met i : ℕ) (f : Laying w s l₀ l n at met i) where
  order : Ordered w s
  order = f.lays.order

  gap : (x : ℕ) → at ≤ x → x < w → (i < s.size → x < (s.slot i).start) → usable w s x ≡ false
  gap x low wide high =
      ⊎_elim
      (λ (q : ended s i ≤ x). gap-ticks w s order i x f.upto q wide high)
      (λ (q : x < ended s i). f.idle x low q)
      (le-or-lt (ended s i) x)

  pub laying-room : n < length l
  laying-room = omega (arith, f.few, f.upto, f.lays.room, f.lays.one, f.come.long)

  pub laying-inside : at ≤ w
  laying-inside = le_trans f.behind (end-inside w s order i f.upto)

  pub laying-end : s.size ≤ i → (l' : List ℕ) (r : ℕ) → Span l n at w 0 r l' → LaidIn l₀ l' r w (usable w s)
  unfolding bit
  laying-end end l' r out =
      come-round
      (come-on f.come out (λ x low high. ap bit (gap x low high (λ m. absurd (omega arith)))))
      (omega (arith, out.high, laying-room, f.come.long))
      (slots-turn w _ f.lays.some)
      f.lays.most

  module _ (less : i < s.size) where
    next : (k : ℕ) → ended s (k + 1) ≡ (s.slot k).end
    unfolding ended
    next k = ap (ended s) (add-one k)

    before : (x : ℕ) → at ≤ x → x < (s.slot i).start → usable w s x ≡ false
    before x low high = let g = order i less in gap x low (omega (arith, g.long, g.inside)) (λ _. high)

    -- Two edges more have room.
    pub laying-more : n + 1 < length l
    laying-more = omega (arith, f.few, f.lays.room, f.come.long)

    pub laying-short : (s.slot i).start + (s.slot i).loss ≤ most_ticks
    laying-short = let g = order i less in omega (arith, g.short, g.inside, f.lays.most)

    pub laying-skip : s.ours i ≡ false → Laying w s l₀ l n at met (i + 1)
    unfolding met_at
    laying-skip other =
        let g = order i less in
        record {
          lays = f.lays;
          upto = omega arith;
          behind = omega (arith, next i, f.behind, g.after, g.long);
          idle = λ x low high. ⊎_elim
              (λ (p : (s.slot i).start ≤ x). others-ticks w s order i x less p (omega (arith, next i)) other)
              (λ (p : x < (s.slot i).start). before x low p)
              (le-or-lt (s.slot i).start x);
          meets = f.meets ∙ sym (ap (λ b. cond b (s.slot i).end (met_at w s i)) other) ∙ sym (ap (met_at w s) (add-one i));
          few = omega (arith, f.few);
          come = f.come;
        }

    module _ (o : ℕ) (opened : o ≡ opens_at (s.slot i).start (s.slot i).loss met) where
      is : o ≡ opens w s i
      is = opened ∙ ap (opens_at (s.slot i).start (s.slot i).loss) f.meets ∙ sym (opens-is w s order i less)

      pub laying-order : (at ≤ o) × (o ≤ (s.slot i).end) × ((s.slot i).end ≤ most_ticks)
      laying-order =
          let g = order i less in
          let inside = opens-inside w s order i less in
          omega (arith, f.behind, g.after, g.inside, f.lays.most, is, inside.0, inside.1)

      out : (x : ℕ) → at ≤ x → x < o → usable w s x ≡ false
      out x low high =
          ⊎_elim
          (λ (p : (s.slot i).start ≤ x).
          lost-ticks w s order i x less p (omega (arith, is, (opens-inside w s order i less).1)) (omega (arith, is)))
          (λ (p : x < (s.slot i).start). before x low p)
          (le-or-lt (s.slot i).start x)

      within : s.ours i ≡ true → (x : ℕ) → o ≤ x → x < (s.slot i).end → usable w s x ≡ true
      within mine x low high =
          ours-ticks w s order i x less (omega (arith, is, (opens-inside w s order i less).0)) high mine (omega (arith, is))

      row-ticks : (k : ℕ) → Row s i k → (x : ℕ) → o ≤ x → x < (s.slot k).end → usable w s x ≡ true
      row-ticks zero r x low high =
          let same : i ≡ 0 = omega (arith, r.some) in
          within (r.mine i (le_refl i) r.some) x low (rw same high)
      row-ticks (suc k) r x low high =
          ⊎_elim
          (λ (same : i ≡ suc k). within (r.mine i (le_refl i) r.some) x low (rw same high))
          (λ (more : i < suc k).
          let some : i ≤ k = omega arith in
          let joined = r.joined k some (omega arith) in
          let starts = opens-joined w s order k r.inside (r.mine k some (omega arith)) joined in
          ⊎_elim
          (λ (late : (s.slot k).end ≤ x).
          ours-ticks w s order (suc k) x r.inside (omega (arith, joined)) high (r.mine (suc k) r.some (le_refl _))
          (omega (arith, joined, starts)))
          (λ (early : x < (s.slot k).end). row-ticks k (row-shorter s i k r some) x low early)
          (le-or-lt (s.slot k).end x))
          (eq-or-lt_of_le r.some)

      pub laying-next :
          (k : ℕ) → Row s i k → (l' : List ℕ) (r : ℕ) → Slotted l n at o (s.slot k).end r l'
          → Laying w s l₀ l' r (s.slot k).end (s.slot k).end (k + 1)
      unfolding bit met_at
      laying-next k row l' r laid =
          let end : ended s (k + 1) ≡ (s.slot k).end = next k in
          record {
            lays = f.lays;
            upto = omega (arith, row.inside);
            behind = rw end (le_refl _);
            idle = λ x low high. absurd (omega (arith, end));
            meets = sym (ap (λ b. cond b (s.slot k).end (met_at w s k)) (row.mine k row.some (le_refl k)))
                ∙ sym (ap (met_at w s) (add-one k));
            few = omega (arith, f.few, laid.high, row.some);
            come = come-slot f.come laid (λ x low high. ap bit (out x low high)) (λ x low high. ap bit (row-ticks k row x low high));
          }
