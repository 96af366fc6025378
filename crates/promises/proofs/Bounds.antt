-- Numbers small enough for the bytes they are written in: counts, offsets, supplies, margins and refusals. Assumes nothing.
use mathlib.Core.Path.{◌≡◌, refl, sym, ap, subst, ◌∙◌}
use mathlib.Core.Logic.{⊎_elim}
use mathlib.Core.Bool.{Bool, true, false}
use mathlib.Core.List.{List}
use Prim.Native.Nat.{ℕ, zero, suc, ◌+◌, ◌*◌, ◌/◌, ◌%◌, ◌≤◌, ◌<◌}
use native.Mathlib.Nat.{div-div-eq-div-mul, mul-le-mul}
use native.Mathlib.Omega.{arith}
use lib.Dec.{eqb}
use lib.IntN.{ℤ, pos}
use mir.Syntax.{w32}
use mir.Val.{SFits}
use Rattle.rules.specs.Sums.{Subset, bit}
use Rattle.rules.specs.Supply.{Task, supply, margin, drops, count}
use Rattle.rules.specs.Worst.{Worst}
use Rattle.rules.specs.Least.{Least}
use Rattle.rules.proofs.Sums.{bit_le, number-le}
use Rattle.rules.proofs.Signed.{mag-sub}
use Rattle.octets.specs.Octets.{twos, signed}
use Rattle.octets.proofs.Signs.{twos_small, signed-twos}
use Rattle.limits.specs.Refusal.{if_none}
use Rattle.limits.specs.Limits.{most_ticks, most_strips, most_in_rounds, most_period, most_need, rounds_refusal}
use Rattle.limits.proofs.Refusals.{when-all, otherwise-all, both-none, either}
use Rattle.records.specs.Records.{task_record, ticks_of, asked_of}
use Rattle.records.specs.Refusals.{body_refusal, point_refusal, job_of}
use Rattle.records.specs.declared.TaskRecord.{TaskRecord}
use Rattle.records.proofs.Numbers.{body-all}
use Rattle.judge.specs.Points.{supplied_at, margin_at, counted_at}
use Rattle.judge.proofs.Gates.{open-inside}
use Rattle.rounds.specs.Rounds.{one_strip, rounds_body, rounds_point_refusal, rounds_counted_at}
use Rattle.rounds.specs.Long.{Ready}
use Rattle.rounds.proofs.Bodies.{ready-job}
use Rattle.fiddlequill.specs.Packed.{packed}

-- ---- bytes

pub back2 : (x : ℕ) → x < 65536 → x % 256 + 256 * (x / 256 % 256) ≡ x
back2 x l = omega arith

low2 : (x : ℕ) → x % 256 + 256 * (x / 256 % 256) + 65536 * (x / 65536) ≡ x
low2 x = let twice : x / 65536 ≡ x / 256 / 256 = sym (div-div-eq-div-mul x 256 256) in omega arith

pub back4 :
    (x : ℕ) → x < 4294967296
    → x % 256 + 256 * (x / 256 % 256) + 65536 * (x / 65536 % 256) + 16777216 * (x / 16777216 % 256) ≡ x
back4 x l =
    let twice : x / 16777216 ≡ x / 65536 / 256 = sym (div-div-eq-div-mul x 65536 256) in
    let top : x / 16777216 % 256 ≡ x / 65536 / 256 % 256 = rw twice in
    omega (arith, low2 x, back2 (x / 65536) (omega arith))

pub unpacked : (n x r : ℕ) → x < 4294967296 → r ≡ packed n x → (r / 4294967296 ≡ n) × (r % 4294967296 ≡ x)
unfolding packed
unpacked n x r l e = (omega arith, omega arith)

-- What was unpacked is what was packed.
pub both : {A B : Type 0} {a b c : A} {x y z : B} → (a ≡ b) × (x ≡ y) → (b ≡ c) × (y ≡ z) → (a ≡ c) × (x ≡ z)
both p q = (p.0 ∙ q.0, p.1 ∙ q.1)

-- ---- a verdict

bit-back : (b : Bool) → eqb (bit b) 1 ≡ b
unfolding bit
bit-back true = refl
bit-back false = refl

pub unpacked-quick :
    (n : ℕ) (b : Bool) (r : ℕ) → r ≡ packed n (bit b) → (r / 4294967296 ≡ n) × (eqb (r % 4294967296) 1 ≡ b)
unpacked-quick n b r e =
    let parts = unpacked n (bit b) r (omega (arith, bit_le b)) e in
    (parts.0, ap (λ x. eqb x 1) parts.1 ∙ bit-back b)

-- ---- counts and offsets

pub count-le : (q : ℕ) (u : Subset) (t : Task) (p : ℕ) → count q u t p ≤ t.k
unfolding count drops
count-le q u t p = number-le _ t.k

pub worst-small :
    (r : TaskRecord) (l : List ℕ) (c o : ℕ) → Ready l (job_of r) → Worst r.w (ticks_of r l) (asked_of r) c o
    → (c ≤ most_in_rounds) × (o < 2 * most_ticks)
worst-small r l c o ready worst = (
  omega (arith, count-le 2 (ticks_of r l) (asked_of r) o, worst.hit, ready.long.strips),
  omega (arith, worst.inside, ready.good.most),
)

-- What bounds the answer of an accepted call bounds the 0 beside a refusal too.
pub none-most : (n a most : ℕ) → (n ≡ 0 → a ≤ most) → if_none n a 0 ≤ most
unfolding if_none
none-most zero a most below = below refl
none-most (suc n) a most below = omega arith

counted-small : (task slots : List ℕ) (x : ℕ) → counted_at task slots x ≤ most_strips
unfolding counted_at
counted-small task slots x =
    none-most _ _ _ (λ none.
    let good = (open-inside task slots x none).0 in
    omega (arith, count-le 2 (ticks_of (task_record task) slots) (asked_of (task_record task)) x, good.within.strips))

pub unpacked-count :
    (task slots : List ℕ) (x r : ℕ) → r ≡ packed (point_refusal task slots x) (counted_at task slots x)
    → (r / 4294967296 ≡ point_refusal task slots x) × (r % 4294967296 ≡ counted_at task slots x)
unpacked-count task slots x r = unpacked _ _ r (omega (arith, counted-small task slots x))

rounds-small : (task slots : List ℕ) (x : ℕ) → rounds_counted_at task slots x ≤ most_in_rounds
unfolding rounds_counted_at rounds_point_refusal
rounds-small task slots x =
    none-most _ _ _ (λ none.
    let ready = ready-job (task_record task) slots (both-none _ _ (both-none _ _ none).1).0 in
    omega (arith, count-le 2 (ticks_of (task_record task) slots) (asked_of (task_record task)) x, ready.long.strips))

pub unpacked-rounds :
    (task slots : List ℕ) (x r : ℕ) → r ≡ packed (rounds_point_refusal task slots x) (rounds_counted_at task slots x)
    → (r / 4294967296 ≡ rounds_point_refusal task slots x) × (r % 4294967296 ≡ rounds_counted_at task slots x)
unpacked-rounds task slots x r = unpacked _ _ r (omega (arith, rounds-small task slots x))

-- ---- supplies and margins

supply-most : (q : ℕ) (u : Subset) (D p : ℕ) → supply q u D p ≤ q * D
unfolding supply
supply-most q u D p = number-le _ (q * D)

supplied-small : (task slots : List ℕ) (x : ℕ) → supplied_at task slots x ≤ 2 * most_period
unfolding supplied_at
supplied-small task slots x =
    none-most _ _ _ (λ none.
    let good = (open-inside task slots x none).0 in
    omega (arith, supply-most 2 (ticks_of (task_record task) slots) (task_record task).d x, good.within.deadline))

pub unpacked-supply :
    (task slots : List ℕ) (x r : ℕ) → r ≡ packed (point_refusal task slots x) (supplied_at task slots x)
    → (r / 4294967296 ≡ point_refusal task slots x) × (r % 4294967296 ≡ supplied_at task slots x)
unpacked-supply task slots x r = unpacked _ _ r (omega (arith, supplied-small task slots x))

-- A margin in units of half a tick or more fits 32 bits.
margin-fits :
    (q : ℕ) (u : Subset) (t : Task) (p : ℕ) → q ≤ 2 → t.D ≤ most_period → t.e ≤ most_need → SFits w32 (margin q u t p)
unfolding margin
margin-fits q u t p few deadline need =
    let supplied : q * t.D ≤ 2 * most_period = mul-le-mul few deadline in
    let needed : q * t.e ≤ 2 * most_need = mul-le-mul few need in
    record { sfits = mag-sub (supply q u t.D p) (q * t.e) 2147483648 (omega (arith, supply-most q u t.D p)) (omega arith) }

pub least_fits :
    (r : TaskRecord) (l : List ℕ) (g : ℤ) → Ready l (job_of r) → Least r.w (ticks_of r l) (asked_of r) g → SFits w32 g
least_fits r l g ready least =
    let within = ready.good.within in
    subst (SFits w32) least.hit
    (margin-fits 1 (ticks_of r l) (asked_of r) least.place (omega arith) within.deadline within.need)

measured-fits : (task slots : List ℕ) (x : ℕ) → SFits w32 (margin_at task slots x)
unfolding margin_at
measured-fits task slots x =
    ⊎_elim
    (λ none.
    let good = (open-inside task slots x none.0).0 in
    subst (SFits w32) none.1
    (margin-fits 2 (ticks_of (task_record task) slots) (asked_of (task_record task)) x (omega arith) good.within.deadline good.within.need))
    (λ bad. subst (SFits w32) bad.1 (record { sfits = omega arith }))
    (either (point_refusal task slots x) (margin 2 (ticks_of (task_record task) slots) (asked_of (task_record task)) x) (pos 0) refl)

pub unpacked-margin :
    (task slots : List ℕ) (x r : ℕ) → r ≡ packed (point_refusal task slots x) (twos (margin_at task slots x))
    → (r / 4294967296 ≡ point_refusal task slots x) × (signed (r % 4294967296) ≡ margin_at task slots x)
unpacked-margin task slots x r e =
    let fits = measured-fits task slots x in
    let parts = unpacked _ _ r (twos_small (margin_at task slots x) fits) e in
    (parts.0, ap signed parts.1 ∙ signed-twos (margin_at task slots x) fits)

-- ---- refusals

pub body-low : (r : TaskRecord) (l : List ℕ) → body_refusal r l ≤ 19
body-low r l = body-all (λ n. n ≤ 19) (omega arith) (λ n low high. high) r l

pub rounds-low : (r : TaskRecord) (l : List ℕ) → rounds_body r l ≤ 19
unfolding rounds_body rounds_refusal
rounds-low r l =
    let P : ℕ → Type 0 = λ n. n ≤ 19 in
    otherwise-all P _ _ (body-low (one_strip r) l)
    (otherwise-all P _ _ (when-all P 9 _ (omega arith) (omega arith)) (when-all P 10 _ (omega arith) (omega arith)))
