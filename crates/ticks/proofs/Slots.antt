-- A good board is a table in the order of time, and a slot record that was read is the table's slot. Assumes nothing.
use mathlib.Core.Path.{◌≡◌, refl, sym, ap, ◌∙◌}
use mathlib.Core.Logic.{⊎_elim}
use mathlib.Core.Bool.{true, false, cond, ◌&&◌, and-false}
use mathlib.Core.List.{List}
use Prim.Native.Nat.{ℕ, zero, suc, ◌+◌, ◌-◌, ◌≤◌, ◌<◌}
use native.Mathlib.Nat.{not-suc-le-zero, zero-lt-suc, le_of_suc-le-suc, eq-or-lt_of_le}
use native.Mathlib.Omega.{arith}
use lib.Dec.{eqb}
use lib.ListN.{length}
use borrow.Author.Tests.{leb-false, ltb-false, eq-eqb, ne_eqb}
use Rattle.limits.specs.Limits.{most_ticks}
use Rattle.rules.specs.Usable.{usable}
use Rattle.limits.proofs.Refusals.{both-none, when-none}
use Rattle.records.specs.Records.{slot_at, slot_of, owned, board}
use Rattle.records.specs.Refusals.{slot_refusal, end_before, first_bad}
use Rattle.records.specs.declared.Slot.{Slot}
use Rattle.runs.specs.Runs.{LaidIn}
use Rattle.ticks.specs.Ticks.{Span, Slotted, met_first, met_at, opens_at, Fits}
use Rattle.ticks.proofs.Order.{ended, Good}
use Rattle.ticks.proofs.Laying.{Lays, Laying, laying-start, laying-short, laying-more, laying-skip, laying-order, row_one, laying-next, laying-end}

-- ---- what a good slot is

good_of : (w b : ℕ) (s : Slot) → slot_refusal w b s ≡ 0 → Good w b (slot_of s)
unfolding slot_refusal
good_of w b s e =
    let p = both-none _ _ e in
    let q = both-none _ _ p.1 in
    let r = both-none _ _ q.1 in
    let long : s.start < s.end = leb-false _ _ (when-none 15 _ (zero-lt-suc 14) p.0) in
    let short : s.loss ≤ s.end - s.start = ltb-false _ _ (when-none 18 _ (zero-lt-suc 17) r.1) in
    record {
      long = long;
      inside = ltb-false _ _ (when-none 16 _ (zero-lt-suc 15) q.0);
      after = ltb-false _ _ (when-none 17 _ (zero-lt-suc 16) r.0);
      short = omega arith;
    }

-- Every slot of a table that isn't refused is good.
good-slot : (w : ℕ) (slot : ℕ → Slot) (n i : ℕ) → first_bad w slot n ≡ 0 → i < n → Good w (end_before slot i) (slot_of (slot i))
unfolding first_bad
good-slot w slot zero i e l = absurd (not-suc-le-zero l)
good-slot w slot (suc n) i e l =
    let p = both-none _ _ e in
    ⊎_elim
    (λ (q : i ≡ n). good_of w _ _ (ap (λ j. slot_refusal w (end_before slot j) (slot j)) q ∙ p.1))
    (λ m. good-slot w slot n i p.0 m)
    (eq-or-lt_of_le (le_of_suc-le-suc l))

module _ (b : List ℕ) (first count owner w : ℕ) where
  ended_is : (i : ℕ) → ended (board b first count owner) i ≡ end_before (slot_at b first) i
  unfolding ended end_before board
  ended_is zero = refl
  ended_is (suc i) = refl

  board-lays : (l : List ℕ) → Fits b first count w l → Lays w (board b first count owner) l
  unfolding board
  board-lays l fits =
      record {
        order = λ i less. rw (ended_is i) (good-slot w (slot_at b first) count i fits.good less);
        some = fits.some;
        most = fits.most;
        room = fits.room;
        one = fits.one;
      }

  pub board-start :
      (l : List ℕ) (met : ℕ) → Fits b first count w l → met ≡ met_first w (board b first count owner) count
      → Laying w (board b first count owner) l l 0 0 met 0
  unfolding board met_at
  board-start l met fits e = laying-start _ _ l met (board-lays l fits) e

  -- A record s that was read is slot i of the board.
  module _ (i : ℕ) (s : Slot) (q : s ≡ slot_at b first i) where
    mine : s.owner ≡ owner → owned b first owner i ≡ true
    unfolding owned
    mine same = eq-eqb _ _ (sym (ap (λ (x : Slot). x.owner) q) ∙ same)

    not-mine : (s.owner ≡ owner → ⊥) → owned b first owner i ≡ false
    unfolding owned
    not-mine other = ne_eqb _ _ (λ same. other (ap (λ (x : Slot). x.owner) q ∙ same))

    module _ (l₀ l : List ℕ) (n at met : ℕ) (f : Laying w (board b first count owner) l₀ l n at met i) (less : i < count) where
      pub read_short : s.start + s.loss ≤ most_ticks
      unfolding board
      read_short = rw q (laying-short _ _ _ _ _ _ _ _ f less)

      pub read_more : n + 1 < length l
      unfolding board
      read_more = laying-more _ _ _ _ _ _ _ _ f less

      pub read-skip : (s.owner ≡ owner → ⊥) → Laying w (board b first count owner) l₀ l n at met (i + 1)
      unfolding board
      read-skip other = laying-skip _ _ _ _ _ _ _ _ f less (not-mine other)

      module _ (o : ℕ) (opened : o ≡ opens_at s.start s.loss met) where
        pub read-order : (at ≤ o) × (o ≤ s.end) × (s.end ≤ most_ticks)
        unfolding board
        read-order = rw q (laying-order _ _ _ _ _ _ _ _ f less o (rw q at opened))

        pub read_next :
            s.owner ≡ owner → (l' : List ℕ) (r : ℕ) → Slotted l n at o s.end r l'
            → Laying w (board b first count owner) l₀ l' r s.end s.end (i + 1)
        unfolding board
        read_next same l' r laid =
            rw q (laying-next _ _ _ _ _ _ _ _ f less o (rw q at opened) i (row_one _ i less (mine same)) l' r (rw q at laid))

  pub board-end :
      (l₀ l : List ℕ) (n at met i : ℕ) → Laying w (board b first count owner) l₀ l n at met i → count ≤ i
      → (l' : List ℕ) (r : ℕ) → Span l n at w 0 r l' → LaidIn l₀ l' r w (usable w (board b first count owner))
  unfolding board
  board-end l₀ l n at met i f end = laying-end _ _ _ _ _ _ _ _ f end

  -- ---- the last slot, which meets the first

  -- A record s that was read is the board's last slot.
  module _ (s : Slot) (some : ¬ (count ≡ 0)) (q : s ≡ slot_at b first (count - 1)) where
    met-is : met_first w (board b first count owner) count ≡ cond (eqb s.owner owner && eqb s.end w) 0 w
    unfolding met_first board owned
    met-is = rw q (go count some)
      where
        go : (n : ℕ) → ¬ (n ≡ 0) → met_first w (board b first count owner) n ≡ cond (eqb (slot_at b first (n - 1)).owner owner && eqb (slot_at b first (n - 1)).end w) 0 w
        go zero none = absurd (none refl)
        go (suc n) none = let p : suc n - 1 ≡ n = omega arith in rw p refl

    pub met-last : s.owner ≡ owner → s.end ≡ w → 0 ≡ met_first w (board b first count owner) count
    met-last same end =
        sym (met-is ∙ ap (λ x. cond (x && eqb s.end w) 0 w) (eq-eqb _ _ same) ∙ ap (λ x. cond x 0 w) (eq-eqb _ _ end))

    pub met-short : (s.end ≡ w → ⊥) → w ≡ met_first w (board b first count owner) count
    met-short end =
        sym (met-is ∙ ap (λ x. cond (eqb s.owner owner && x) 0 w) (ne_eqb _ _ end)
        ∙ ap (λ x. cond x 0 w) (and-false (eqb s.owner owner)))

    pub met-other : (s.owner ≡ owner → ⊥) → w ≡ met_first w (board b first count owner) count
    met-other other = sym (met-is ∙ ap (λ x. cond (x && eqb s.end w) 0 w) (ne_eqb _ _ other))

  pub met-none : count ≡ 0 → w ≡ met_first w (board b first count owner) count
  unfolding met_first
  met-none none = rw none refl
