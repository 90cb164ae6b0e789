-- The order of the entries of a queue.
--     entry_cmp      reversed: the smaller number is the greater entry
--     entry_eq      whether the numbers are equal
use Rattle.std.specs.Prelude.{ℕ, Bool, ◌==◌}
use Rattle.std.specs.Ordering.{nat_cmp}
use Rattle.std.specs.declared.cmp.Ordering.{Ordering}
use Rattle.std.specs.declared.cmp.Reverse.{Reverse}

abbrev pub entry_cmp : Reverse ℕ → Reverse ℕ → Ordering
entry_cmp x y = nat_cmp y.0 x.0

abbrev pub entry_eq : Reverse ℕ → Reverse ℕ → Bool
entry_eq x y = x.0 == y.0
