-- The list of path ids of a number in a table: the empty list if the table doesn't have the number.
use Rattle.std.specs.Prelude.{ℕ, List, [], nat_eq, Option, Some, None}
use Rattle.std.specs.HashMap.{HashMap, get}
use Rattle.smallvec.specs.SmallVec.{SmallVec}

abbrev pub items_of : Option (SmallVec ℕ) → List ℕ
items_of None = []
items_of (Some v) = v.items

abbrev pub path_ids_in : {S : Type 0} → HashMap ℕ (SmallVec ℕ) S → ℕ → List ℕ
path_ids_in m n = items_of (get nat_eq m n)
