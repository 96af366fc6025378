-- From one strip's late ticks to the answers of a task of many strips: where a strip is dropped, and the least margin, know nothing of m and k.
--
-- In order: late runs; the map of them; the largest count along it; what a job lends. Assumes nothing.
use mathlib.Core.Path.{◌≡◌, refl, ◌∙◌}
use mathlib.Core.List.{List}
use Prim.Native.Nat.{ℕ, ◌≤◌}
use native.Mathlib.Omega.{arith}
use lib.IntN.{ℤ}
use lib.ListN.{length, take}
use Rattle.rules.specs.Sums.{Subset}
use Rattle.rules.specs.Supply.{margin, dropped}
use Rattle.limits.specs.declared.Task.{Task}
use Rattle.runs.specs.Runs.{Laid, Runs, LaidIn}
use Rattle.maps.specs.Maps.{Drawn, Top}
use Rattle.late.specs.Late.{LateIn}
use Rattle.orbits.specs.Orbits.{Ring}
use Rattle.records.specs.Jobs.{job_ticks}
use Rattle.records.specs.declared.Job.{Job}
use Rattle.room.specs.Room.{most_edges, Highest}
use Rattle.jobs.specs.Lent.{Own}
use Rattle.room.proofs.Sides.{drawn-bits}
use Rattle.room.proofs.Ridges.{topped-drawn, highest}
use Rattle.room.proofs.Handed.{handed}
use Rattle.rounds.specs.Long.{single, singly, Long}

-- ---- late runs

pub late-any :
    {l : List ℕ} {w : ℕ} {t s : Task} {side n : ℕ} {g : ℤ} {late late' : List ℕ} → s ≡ single t → LateIn l w s side late n g late'
    → LateIn l w t side late n g late'
unfolding dropped margin
late-any {l} {w} {t} {s} {side} {n} {g} {late} {late'} one lates =
    let p : LateIn l w (single t) side late n g late' = rw one at lates in
    record {
      long = p.long;
      room = p.room;
      few = p.few;
      laid = p.laid;
      least = λ u laid.
          let least = p.least u laid in
          record { bound = least.bound; place = least.place; inside = least.inside; hit = least.hit };
    }

-- ---- the map of them

-- A map as long as the wheel was drawn for the wheel.
pub drawn-on :
    {l m' : List ℕ} {w : ℕ} (m : List ℕ) → length m ≡ w → (length m' ≡ length m) × ((z : Subset) → Laid l (length m) z → Drawn m' z)
    → (length m' ≡ w) × ((z : Subset) → Laid l w z → Drawn m' z)
drawn-on m long (kept, drawn) = (kept ∙ long, λ z laid. drawn z (rw long laid))

pub drawn-ring :
    {l : List ℕ} {w : ℕ} {m : List ℕ} {t : Task} → Runs l w → (length m ≡ w) × ((z : Subset) → Laid l w z → Drawn m z) → Long t
    → Ring m t.h t.k
unfolding Runs
drawn-ring {m = m} runs (long, drawn) task =
    record {
      some = omega (arith, runs.1.wheel.some);
      most = omega (arith, runs.1.most);
      period = task.within.period;
      strips = task.strips;
      bits = drawn-bits m runs.0 (drawn runs.0 runs.1);
    }

-- ---- the largest count along it

-- The largest count along the map of late ticks is that half a tick after a tick.
pub ridged :
    (t : Task) {l : List ℕ} {w : ℕ} {s : Task} {n : ℕ} {g : ℤ} {late late' map' : List ℕ} {c a : ℕ} → s ≡ single t → LateIn l w s 1 late n g late'
    → (length map' ≡ w) × ((z : Subset) → Laid (take n late') w z → Drawn map' z) → Top map' t.h t.k c a → Highest l w t c a
ridged t one lates (long, drawn) top = highest _ _ _ _ _ _ _ _ (late-any one lates) (topped-drawn _ _ _ _ _ long drawn _ _ top)

-- ---- what a job lends

-- The slots of the job with one strip are laid out as the job's own ticks.
pub own-runs :
    {l m r r' : List ℕ} {n : ℕ} {j s : Job} → length r ≤ most_edges → m ≡ l → s ≡ singly j → LaidIn r r' n s.wheel.w (job_ticks m s)
    → Own l j (take n r') j.wheel.w
own-runs {l} {r = r} {r'} {n} {j} most here one laid =
    let own : LaidIn r r' n j.wheel.w (job_ticks l j) = rw (here, one) at laid in
    record { laid = own.laid; wheel = refl; few = (handed own most).1 }
