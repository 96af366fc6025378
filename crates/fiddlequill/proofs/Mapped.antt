-- An answer whose value was mapped: the refusal is the same, and the value is the function's. Assumes nothing.
use mathlib.Core.Path.{◌≡◌, refl, ap}
use Rattle.std.specs.Prelude.{Result, Ok, Err, MatchResult, IsOkAnd}
use Rattle.limits.specs.Refusal.{refusal, given}
use Rattle.limits.specs.declared.Refusal.{Refusal}

pub mapped :
    {A B : Type 0} {P : A → B → Type 0} (f : A → B) (d : A) (r : Result A Refusal) (s : Result B Refusal)
    → MatchResult r (λ x. IsOkAnd s (P x)) (λ e. s ≡ Err e) → ((x : A) (y : B) → P x y → y ≡ f x)
    → (refusal s ≡ refusal r) × (given (f d) s ≡ f (given d r))
mapped f d (Ok x) (Ok y) h k = (refl, k x y h)
mapped f d (Ok x) (Err e) h k = absurd h
mapped f d (Err e) s h k = (ap refusal h, ap (given (f d)) h)
