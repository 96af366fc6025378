-- docs/RULES.md: a result of two numbers goes to C as one 64-bit number. Definitions only.
--
--     packed n x       refusal number n and the other number x
--     PackedWhich ..   the question which slot is bad, its result packed
--     PackedQuick ..   the question just yes or no, its result packed: 1 for firm, else 0
--     PackedGrant ..   a whole grant call whose result is packed
use Rattle.std.specs.Prelude.{◌≡◌, Bool, List, ℕ, ◌+◌, ◌*◌, ◌<◌}
use Rattle.rules.specs.Sums.{bit}
use Rattle.which.specs.Which.{Which}
use Rattle.quick.specs.Quick.{Quick}
use Rattle.grants.specs.Grants.{GrantCall}

unfoldable pub packed : ℕ → ℕ → ℕ
packed n x = n * 4294967296 + x

pub record PackedWhich (task slots : List ℕ) (r : ℕ) : Type 0 where
  pub number : ℕ
  pub place : ℕ
  pub small : place < 4294967296
  pub result : r ≡ packed number place
  pub call : Which task slots number place

pub record PackedQuick (task slots : List ℕ) (r : ℕ) : Type 0 where
  pub number : ℕ
  pub firm : Bool
  pub result : r ≡ packed number (bit firm)
  pub call : Quick task slots number firm

pub record PackedGrant (l : List ℕ) (v loss e D h m k r : ℕ) (after : List ℕ) : Type 0 where
  pub number : ℕ
  pub slots : ℕ
  pub small : slots < 4294967296
  pub result : r ≡ packed number slots
  pub call : GrantCall l v loss e D h m k number slots after
