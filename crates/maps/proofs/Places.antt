-- Places on a wheel: a step on, and the one place that a step leads from. Assumes nothing.
use mathlib.Core.Path.{◌≡◌, sym, ap, ◌∙◌}
use mathlib.Core.Logic.{◌⊎◌, inl, inr, ⊎_elim}
use Prim.Native.Nat.{ℕ, ◌+◌, ◌-◌, ◌*◌, ◌%◌, ◌≤◌, ◌<◌}
use native.Mathlib.Nat.{zero-mul, one-mul, add-mul, add-zero, mod-lt, mod-eq_of_lt, mod-add-mod, add-mod-mod, add-mod_right}
use native.Mathlib.Omega.{arith}
use Rattle.rules.proofs.Sums.{le-or-lt}

pub place-first : {w p : ℕ} (s : ℕ) → p < w → (p + 0 * s) % w ≡ p
place-first s inside = rw (zero-mul, add-zero) (mod-eq_of_lt inside)

pub place-next : (w p i s : ℕ) → ((p + i * s) % w + s) % w ≡ (p + (i + 1) * s) % w
place-next w p i s =
    let e : p + i * s + s ≡ p + (i + 1) * s = omega (arith, add-mul i 1 s, one-mul s) in
    mod-add-mod (p + i * s) w s ∙ ap (λ y. y % w) e

-- s places on from the place before is this one, so one strip more arrives where it did.
pub place-before : (w p p' n s : ℕ) → p ≡ (p' + s) % w → (p' + (n + 1) * s) % w ≡ (p + n * s) % w
place-before w p p' n s back =
    let e : p' + s + n * s ≡ p' + (n + 1) * s = omega (arith, add-mul n 1 s, one-mul s) in
    sym (ap (λ y. (y + n * s) % w) back ∙ mod-add-mod (p' + s) w (n * s) ∙ ap (λ y. y % w) e)

once-round : {a r w : ℕ} → a < w → r < w → ((a + r) % w ≡ a + r) ⊎ ((a + r) % w + w ≡ a + r)
once-round {a} {r} {w} la lr =
    ⊎_elim
    (λ (past : w ≤ a + r).
    let e : a + r ≡ a + r - w + w = omega arith in
    let f = ap (λ y. y % w) e ∙ add-mod_right (a + r - w) w ∙ mod-eq_of_lt (omega arith) in
    inr (omega (arith, f)))
    (λ (below : a + r < w). inl (mod-eq_of_lt below))
    (le-or-lt w (a + r))

-- From one place alone s places on is a given place.
pub one_place : {a b w : ℕ} (s : ℕ) → a < w → b < w → (a + s) % w ≡ (b + s) % w → a ≡ b
one_place {a} {b} {w} s la lb e =
    let r = s % w in
    let lr : r < w = mod-lt s (omega arith) in
    let same : (a + r) % w ≡ (b + r) % w = add-mod-mod a s w ∙ e ∙ sym (add-mod-mod b s w) in
    let below : (a + r) % w < w = mod-lt (a + r) (omega arith) in
    ⊎_elim
    (λ (x : (a + r) % w ≡ a + r).
    ⊎_elim (λ (y : (b + r) % w ≡ b + r). omega arith) (λ (y : (b + r) % w + w ≡ b + r). omega arith) (once-round lb lr))
    (λ (x : (a + r) % w + w ≡ a + r).
    ⊎_elim (λ (y : (b + r) % w ≡ b + r). omega arith) (λ (y : (b + r) % w + w ≡ b + r). omega arith) (once-round lb lr))
    (once-round la lr)

-- The place behind k strips goes back with them.
pub place-behind :
    {w p p' q q' : ℕ} (s k : ℕ) → (p' < w) × (p ≡ (p' + s) % w) → (q' < w) × (q ≡ (q' + s) % w) → q ≡ (p + k * s) % w
    → q' ≡ (p' + k * s) % w
place-behind {w} {p} {p'} s k front last behind =
    let same = sym last.1 ∙ behind ∙ sym (place-before w p p' k s front.1) ∙ sym (place-next w p' k s) in
    one_place s last.0 (mod-lt _ (omega (arith, last.0))) same
