-- Values by number.
--     IsSetAt before after n v      number n has v afterwards, and every other number what it had
--     held t k      the value of number k
--     all_held t      the values, as a finite map
--     spare_numbers t      the capacity for more
use Rattle.std.specs.Prelude.{◌≡◌, ◌==◌, ℕ, nat_eq, Option, cond}
use Rattle.std.specs.FinMap.{FinMap, from_entries}
use Rattle.std.specs.HashMap.{get, spare}
use Rattle.std.specs.Ordering.{nat_cmp}
use Rattle.olr_map.specs.declared.number_table.NumberTable.{NumberTable}

module _ {X : Type 0} where
  abbrev pub IsSetAt : (ℕ → Option X) → (ℕ → Option X) → ℕ → Option X → Type 0
  IsSetAt before after n v = (k : ℕ) → after k ≡ cond (n == k) v (before k)

  abbrev pub held : NumberTable X → ℕ → Option X
  held t k = get nat_eq t.by_number k

  abbrev pub all_held : NumberTable X → FinMap nat_cmp X
  all_held t = from_entries t.by_number.entries

  abbrev pub spare_numbers : NumberTable X → ℕ
  spare_numbers t = spare t.by_number
