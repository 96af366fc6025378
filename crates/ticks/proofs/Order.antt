-- Which ticks of a table are usable, whose slots stand in the order of time: those of the painter's slots that aren't lost, and none in another's
-- or between two. Assumes nothing.
--
-- In order: slots in order; ticks behind, before and in a slot; where a slot is met; which slots touch.
use mathlib.Core.Path.{◌≡◌, refl, sym, ap, ◌∙◌}
use mathlib.Core.Logic.{⊎_elim}
use mathlib.Core.Bool.{Bool, true, false, cond, ◌&&◌, and-false}
use Prim.Native.Nat.{ℕ, zero, suc, ◌+◌, ◌-◌, ◌%◌, ◌≤◌, ◌<◌}
use native.Mathlib.Nat.{mod-eq_of_lt, mod_self, zero-mod, le_refl, le_trans, eq-or-lt_of_le}
use native.Mathlib.Omega.{arith}
use native.Mathlib.Decide.{ℕ_discrete}
use lib.Dec.{leb, ltb, eqb}
use borrow.Author.Tests.{le-leb, lt-leb, lt-ltb, le-ltb, eq-eqb, ne_eqb, eqb-true}
use Rattle.rules.specs.Usable.{Slot, Table, covers, touches, opens, usable}
use Rattle.rules.proofs.Sums.{le-or-lt, and_left, and_right, and_both, any-intro, any_none}
use Rattle.ticks.specs.Ticks.{met_first, met_at, opens_at}

-- Where the slot before slot i ends, whoever has it; 0 before the first.
unfoldable pub ended : Table → ℕ → ℕ
ended s zero = 0
ended s (suc i) = (s.slot i).end

pub record Good (w before : ℕ) (s : Slot) : Type 0 where
  pub long : s.start < s.end
  pub inside : s.end ≤ w
  pub after : before ≤ s.start
  pub short : s.start + s.loss ≤ s.end

abbrev pub Ordered : ℕ → Table → Type 0
Ordered w s = (i : ℕ) → i < s.size → Good w (ended s i) (s.slot i)

module _ (w : ℕ) (s : Table) (good : Ordered w s) where
  -- ---- slots in order

  end-last : (i : ℕ) → i < s.size → ended s i ≤ ended s (suc i)
  unfolding ended
  end-last i l = let g = good i l in omega (arith, g.long, g.after)

  -- What ends before slot i ends before every later one.
  ends-rise : (i d : ℕ) → i + d ≤ s.size → ended s i ≤ ended s (i + d)
  ends-rise i zero l = let p : i + 0 ≡ i = omega arith in rw p (le_refl _)
  ends-rise i (suc d) l =
      let p : i + suc d ≡ suc (i + d) = omega arith in
      rw p (le_trans (ends-rise i d (omega arith)) (end-last (i + d) (omega arith)))

  ends-order : (i j : ℕ) → i ≤ j → j ≤ s.size → ended s i ≤ ended s j
  ends-order i j l m = let p : j ≡ i + (j - i) = omega arith in rw p (ends-rise i (j - i) (omega arith))

  pub end-inside : (i : ℕ) → i ≤ s.size → ended s i ≤ w
  unfolding ended
  end-inside zero l = omega arith
  end-inside (suc i) l = (good i l).inside

  -- Slot i is over before a later one starts.
  over-then : (i j : ℕ) → i < j → j < s.size → (s.slot i).end ≤ (s.slot j).start
  unfolding ended
  over-then i j m k = le_trans (ends-order (suc i) j m (omega arith)) (good j k).after

  starts-order : (i j : ℕ) → i ≤ j → j < s.size → (s.slot i).start ≤ (s.slot j).start
  starts-order i j m k =
      ⊎_elim (λ (q : i ≡ j). rw q (le_refl _))
      (λ (q : i < j). omega (arith, over-then i j q k, (good i (omega arith)).long))
      (eq-or-lt_of_le m)

  -- ---- ticks behind, before and in a slot

  -- What slot j gives at tick x of the wheel, where it is the painter's.
  gives : ℕ → ℕ → Bool
  gives j x = covers (opens w s j) (s.slot j).end x

  opens-late : (j : ℕ) → (s.slot j).start ≤ opens w s j
  unfolding opens
  opens-late j = go (touches w s j)
    where
      go : (b : Bool) → (s.slot j).start ≤ cond b (s.slot j).start ((s.slot j).start + (s.slot j).loss)
      go true = le_refl _
      go false = omega arith

  -- Behind the end of slot i − 1 no slot before slot i gives a tick.
  behind-x : (i x : ℕ) → i ≤ s.size → ended s i ≤ x → (j : ℕ) → j < i → gives j x ≡ false
  unfolding gives covers ended
  behind-x i x l low j m =
      ap (λ b. leb (opens w s j) x && b) (le-ltb x (s.slot j).end (le_trans (ends-order (suc j) i m l) low))
      ∙ and-false (leb (opens w s j) x)

  -- Nor does one that opens behind it.
  ahead-x : (x j : ℕ) → x < opens w s j → gives j x ≡ false
  unfolding gives covers
  ahead-x x j l = ap (λ b. b && ltb x (s.slot j).end) (lt-leb (opens w s j) x l)

  before-x : (x j : ℕ) → x < (s.slot j).start → gives j x ≡ false
  before-x x j l = ahead-x x j (omega (arith, opens-late j))

  -- A tick that no slot of the painter's gives.
  none-there : (x : ℕ) → x < w → ((j : ℕ) → j < s.size → (s.ours j && gives j x) ≡ false) → usable w s x ≡ false
  unfolding usable gives
  none-there x wide none =
      any_none _ s.size (λ j k. ap (λ y. s.ours j && covers (opens w s j) (s.slot j).end y) (mod-eq_of_lt wide) ∙ none j k)

  missed : (x j : ℕ) → gives j x ≡ false → (s.ours j && gives j x) ≡ false
  missed x j out = ap (λ b. s.ours j && b) out ∙ and-false (s.ours j)

  -- Behind slot i − 1 and before slot i, or before the wheel's end behind the last.
  pub gap-ticks : (i x : ℕ) → i ≤ s.size → ended s i ≤ x → x < w → (i < s.size → x < (s.slot i).start) → usable w s x ≡ false
  gap-ticks i x l low wide high =
      none-there x wide (λ j k. missed x j (⊎_elim
      (λ (q : i ≤ j).
      let start = high (omega arith) in
      before-x x j (omega (arith, starts-order i j q k)))
      (λ (q : j < i). behind-x i x l low j q)
      (le-or-lt i j)))

  module _ (i x : ℕ) (l : i < s.size) (low : (s.slot i).start ≤ x) (high : x < (s.slot i).end) where
    wide : x < w
    wide = omega (arith, (good i l).inside)

    -- In slot i no other slot gives a tick.
    alone : (s.ours i && gives i x) ≡ false → usable w s x ≡ false
    alone not =
        none-there x wide (λ j k. ⊎_elim
        (λ (q : i ≤ j). ⊎_elim
        (λ (p : i ≡ j). rw (← p) not)
        (λ (p : i < j). missed x j (before-x x j (omega (arith, over-then i j p k))))
        (eq-or-lt_of_le q))
        (λ (q : j < i).
        let after = (good i l).after in
        missed x j (behind-x i x (omega arith) (omega arith) j q))
        (le-or-lt i j))

    pub others-ticks : s.ours i ≡ false → usable w s x ≡ false
    others-ticks not = alone (ap (λ b. b && gives i x) not)

    pub lost-ticks : x < opens w s i → usable w s x ≡ false
    lost-ticks early = alone (missed x i (ahead-x x i early))

    pub ours-ticks : s.ours i ≡ true → opens w s i ≤ x → usable w s x ≡ true
    unfolding usable covers
    ours-ticks mine late =
        any-intro _ s.size i l
        (ap (λ y. s.ours i && (leb (opens w s i) y && ltb y (s.slot i).end)) (mod-eq_of_lt wide)
        ∙ and_both _ _ mine (and_both _ _ (le-leb _ _ late) (lt-ltb _ _ high)))

  -- ---- where a slot is met

  -- A slot of the painter's that ends where slot k starts, also round the end of the wheel.
  meets : (k j : ℕ) → j < s.size → s.ours j ≡ true → (s.slot j).end % w ≡ (s.slot k).start % w → touches w s k ≡ true
  unfolding touches
  meets k j l mine same = any-intro _ s.size j l (and_both _ _ mine (eq-eqb _ _ same))

  start-inside : (k : ℕ) → k < s.size → (s.slot k).start < w
  start-inside k l = omega (arith, (good k l).long, (good k l).inside)

  first-touches : (k m : ℕ) → k < s.size → m ≤ s.size → (s.slot k).start ≡ met_first w s m → touches w s k ≡ true
  unfolding met_first
  first-touches k zero l n = λ e. absurd (omega (arith, start-inside k l))
  first-touches k (suc m) l n = go (s.ours m && eqb (s.slot m).end w) refl
    where
      go :
          (b : Bool) → (s.ours m && eqb (s.slot m).end w) ≡ b → (s.slot k).start ≡ cond b 0 w → touches w s k ≡ true
      go true both e =
          let at-w : (s.slot m).end ≡ w = eqb-true _ _ (and_right (s.ours m) _ both) in
          meets k m n (and_left (s.ours m) _ both)
          (ap (λ x. x % w) at-w ∙ mod_self w ∙ sym (zero-mod w) ∙ sym (ap (λ x. x % w) e))
      go false both e = absurd (omega (arith, start-inside k l))

  met-touches : (i k : ℕ) → i ≤ s.size → k < s.size → (s.slot k).start ≡ met_at w s i → touches w s k ≡ true
  unfolding met_at
  met-touches zero k m l = first-touches k s.size l (le_refl _)
  met-touches (suc i) k m l = go (met-touches i k (omega arith) l) (s.ours i) refl
    where
      go :
          ((s.slot k).start ≡ met_at w s i → touches w s k ≡ true) → (b : Bool) → s.ours i ≡ b
          → (s.slot k).start ≡ cond b (s.slot i).end (met_at w s i) → touches w s k ≡ true
      go sooner true mine e = meets k i m mine (ap (λ x. x % w) (sym e))
      go sooner false other e = sooner e

  -- ---- which slots touch: those that start where they are met

  -- The slot that ends where slot k starts is the one before it.
  met-before : (k j : ℕ) → k < s.size → j < s.size → s.ours j ≡ true → (s.slot j).end ≡ (s.slot k).start → (s.slot k).start ≡ met_at w s k
  unfolding met_at
  met-before zero j l m mine e = absurd (omega (arith, starts-order 0 j (omega arith) m, (good j m).long))
  met-before (suc k) j l m mine e =
      ⊎_elim
      (λ (p : suc k ≤ j). absurd (omega (arith, starts-order (suc k) j p m, (good j m).long)))
      (λ (p : j < suc k). ⊎_elim
      (λ (q : suc j ≡ suc k).
      let same : j ≡ k = omega arith in
      sym (ap (λ b. cond b (s.slot k).end (met_at w s k)) (rw same at mine) ∙ rw same at e))
      (λ (q : suc j < suc k).
      absurd (omega (arith, over-then j k (omega arith) (omega arith), (good k (omega arith)).long, over-then k (suc k) (omega arith) l)))
      (eq-or-lt_of_le p))
      (le-or-lt (suc k) j)

  -- Round the end of the wheel it is the last one, and slot k the first.
  met-last : (n j : ℕ) → n ≡ s.size → j < n → s.ours j ≡ true → (s.slot j).end ≡ w → met_first w s n ≡ 0
  unfolding met_first
  met-last zero j size m mine e = absurd (omega arith)
  met-last (suc n) j size m mine e =
      ⊎_elim
      (λ (q : suc j ≡ suc n).
      let same : j ≡ n = omega arith in
      ap (λ b. cond b 0 w) (and_both (s.ours n) _ (rw same at mine) (eq-eqb _ _ (rw same at e))))
      (λ (q : suc j < suc n).
      absurd (omega (arith, over-then j n (omega arith) (omega arith), (good n (omega arith)).long, (good n (omega arith)).inside)))
      (eq-or-lt_of_le m)

  met-round : (k j : ℕ) → k < s.size → j < s.size → s.ours j ≡ true → (s.slot j).end ≡ w → (s.slot k).start ≡ 0 → (s.slot k).start ≡ met_at w s k
  unfolding met_at
  met-round zero j l m mine e z = z ∙ sym (met-last s.size j refl m mine e)
  met-round (suc k) j l m mine e z =
      absurd (omega (arith, over-then k (suc k) (omega arith) l, (good k (omega arith)).long))

  touching : (k j : ℕ) → k < s.size → j < s.size → s.ours j ≡ true → (s.slot j).end % w ≡ (s.slot k).start % w → (s.slot k).start ≡ met_at w s k
  touching k j l m mine same =
      let start : (s.slot k).start % w ≡ (s.slot k).start = mod-eq_of_lt (start-inside k l) in
      ⊎_elim
      (λ (p : (s.slot j).end ≡ w).
      met-round k j l m mine p (sym start ∙ sym same ∙ ap (λ x. x % w) p ∙ mod_self w))
      (λ (p : (s.slot j).end < w).
      met-before k j l m mine (sym (mod-eq_of_lt p) ∙ same ∙ start))
      (eq-or-lt_of_le (good j m).inside)

  touch_is : (k : ℕ) → k < s.size → touches w s k ≡ eqb (s.slot k).start (met_at w s k)
  unfolding touches
  touch_is k l = go (ℕ_discrete (s.slot k).start (met_at w s k))
    where
      go : Dec ((s.slot k).start ≡ met_at w s k) → touches w s k ≡ eqb (s.slot k).start (met_at w s k)
      go (yes p) = met-touches k k (omega arith) l p ∙ sym (eq-eqb _ _ p)
      go (no p) =
          any_none _ s.size (λ j m. apart j m (s.ours j) refl) ∙ sym (ne_eqb _ _ p)
        where
          apart : (j : ℕ) → j < s.size → (b : Bool) → s.ours j ≡ b → (s.ours j && eqb ((s.slot j).end % w) ((s.slot k).start % w)) ≡ false
          apart j m true mine =
              ap (λ b. s.ours j && b) (ne_eqb _ _ (λ same. p (touching k j l m mine same))) ∙ and-false (s.ours j)
          apart j m false other = ap (λ b. b && eqb ((s.slot j).end % w) ((s.slot k).start % w)) other

  pub opens-is : (k : ℕ) → k < s.size → opens w s k ≡ opens_at (s.slot k).start (s.slot k).loss (met_at w s k)
  unfolding opens opens_at
  opens-is k l = ap (λ b. cond b (s.slot k).start ((s.slot k).start + (s.slot k).loss)) (touch_is k l)

  -- Behind a slot of the painter's that ends where it starts a slot opens with its first tick.
  pub opens-joined : (k : ℕ) → suc k < s.size → s.ours k ≡ true → (s.slot k).end ≡ (s.slot (suc k)).start → opens w s (suc k) ≡ (s.slot (suc k)).start
  unfolding opens
  opens-joined k l mine same =
      ap (λ b. cond b (s.slot (suc k)).start ((s.slot (suc k)).start + (s.slot (suc k)).loss))
      (meets (suc k) k (omega arith) mine (ap (λ x. x % w) same))

  pub opens-inside : (k : ℕ) → k < s.size → ((s.slot k).start ≤ opens w s k) × (opens w s k ≤ (s.slot k).end)
  unfolding opens
  opens-inside k l = (opens-late k, go (touches w s k))
    where
      go : (b : Bool) → cond b (s.slot k).start ((s.slot k).start + (s.slot k).loss) ≤ (s.slot k).end
      go true = omega (arith, (good k l).long)
      go false = (good k l).short
