-- Laying out span after span: what a span does, and how far a buffer has come. Assumes nothing.
use mathlib.Core.Path.{◌≡◌, refl, ◌∙◌}
use mathlib.Core.List.{List}
use Prim.Native.Nat.{ℕ, ◌≤◌, ◌<◌}
use native.Mathlib.Omega.{arith}
use lib.ListN.{length, take}
use Rattle.rules.specs.Sums.{Subset, bit}
use Rattle.rules.specs.Worst.{Wheel}
use Rattle.limits.specs.Limits.{most_ticks}
use Rattle.runs.specs.Runs.{Lay, LaidIn, Turn}
use Rattle.runs.proofs.Edges.{lay-none, lay-span}
use Rattle.ticks.specs.Ticks.{Span, Slotted}

pub span-turn :
    (l l' : List ℕ) (n from to step r : ℕ) → n < length l → from < to → Turn l n from step r l' → Span l n from to step r l'
span-turn l l' n from to step r room some t =
    record {
      long = t.long;
      high = t.high;
      none = λ end. absurd (omega arith);
      parity = λ _. t.parity;
      lay = λ u lay after. lay-span u to t lay (omega (arith, t.long, t.high)) (omega arith) after;
    }

-- The first n entries of l lay out u up to tick `at`, in a buffer that was l₀.
pub record Come (u : Subset) (l₀ l : List ℕ) (n at : ℕ) : Type 0 where
  pub long : length l ≡ length l₀
  pub lay : Lay (take n l) at u

pub come-none : (u : Subset) (l : List ℕ) → Come u l l 0 0
come-none u l = record { long = refl; lay = lay-none u }

pub come-on :
    {u : Subset} {l₀ l l' : List ℕ} {n at to step r : ℕ} → Come u l₀ l n at → Span l n at to step r l'
    → ((x : ℕ) → at ≤ x → x < to → bit (u x) ≡ step) → Come u l₀ l' r to
come-on {u} come s after = record { long = s.long ∙ come.long; lay = s.lay u come.lay after }

pub come-slot :
    {u : Subset} {l₀ l l' : List ℕ} {n at from to r : ℕ} → Come u l₀ l n at → Slotted l n at from to r l'
    → ((x : ℕ) → at ≤ x → x < from → bit (u x) ≡ 0) → ((x : ℕ) → from ≤ x → x < to → bit (u x) ≡ 1) → Come u l₀ l' r to
come-slot {u} come s out within = record { long = s.long ∙ come.long; lay = s.lay u come.lay out within }

pub come-round :
    {u : Subset} {l₀ l : List ℕ} {n w : ℕ} → Come u l₀ l n w → n ≤ length l₀ → Wheel w u → w ≤ most_ticks → LaidIn l₀ l n w u
come-round come room wheel most =
    record {
      long = come.long;
      room = omega (arith, come.long);
      laid = record { wheel = wheel; most = most; lay = come.lay };
    }
