-- docs/RULES.md, "Lookup". Definitions only.
--
--     has l id i        record i of l has that id
--     first_of f n i    the first place from i on, of n places, that passes f; i + n where none does
--     place l id        the first record of l with that id; the number of whole records where none has it
--     looked_up s f id  its bytes, from the site file if it has the id, else from the factory file, else nothing
use Rattle.std.specs.Prelude.{cond, List, [], ℕ, zero, suc, ◌+◌, ◌*◌, eqb, ltb}
use Rattle.octets.specs.Octets.{le4}
use Rattle.rules.specs.Sums.{Subset}
use Rattle.records.specs.Records.{task_bytes, whole, part}

unfoldable pub has : List ℕ → ℕ → Subset
has l id i = eqb (le4 l (task_bytes * i)) id

unfoldable pub first_of : Subset → ℕ → ℕ → ℕ
first_of f zero i = i
first_of f (suc n) i = cond (f i) i (first_of f n (i + 1))

unfoldable pub place : List ℕ → ℕ → ℕ
place l id = first_of (has l id) (whole l) 0

unfoldable pub looked_up : List ℕ → List ℕ → ℕ → List ℕ
looked_up site factory id =
    cond (ltb (place site id) (whole site)) (part site (place site id))
    (cond (ltb (place factory id) (whole factory)) (part factory (place factory id)) [])
