-- Slots by number: an array for low numbers, and a table for the others.
--     number_before n      the slot that an array stores as n: n - 1;  none for 0
--     from n xs      the numbers that have slots in an array, with them: at positions from number n on
--     dense_slot xs k      the slot of number k in an array
--     slot_in_either xs b k      the slot of number k in an array or in a table
--     slot_by i k      the slot of number k
--     pairs_of i      the numbers with their slots
--     spare_of i      the capacity for more numbers
use Rattle.std.specs.Prelude.{ℕ, zero, suc, List, [], ◌∷◌, ◌++◌, Option, Some, None, slice_index}
use Rattle.std.specs.Option.{option_or}
use Rattle.olr_map.specs.NumberTables.{held, spare_numbers}
use Rattle.olr_map.specs.declared.number_table.NumberTable.{NumberTable}
use Rattle.olr_map.specs.declared.slot_index.SlotIndex.{SlotIndex}

abbrev pub number_before : ℕ → Option ℕ
number_before zero = None
number_before (suc p) = Some p

abbrev pub from : ℕ → List ℕ → List (ℕ × ℕ)
from n [] = []
from n (zero ∷ xs) = from (suc n) xs
from n (suc p ∷ xs) = (n, p) ∷ from (suc n) xs

abbrev pub dense_slot : List ℕ → ℕ → Option ℕ
dense_slot xs k = number_before (slice_index xs k)

-- not an `abbrev`: most proofs ask only whether two indexes have the same slots
unfoldable pub slot_in_either : List ℕ → NumberTable ℕ → ℕ → Option ℕ
slot_in_either xs b k = option_or (dense_slot xs k) (held b k)

abbrev pub slot_by : SlotIndex → ℕ → Option ℕ
slot_by i k = slot_in_either i.dense.items i.sparse k

abbrev pub pairs_of : SlotIndex → List (ℕ × ℕ)
pairs_of i = from 0 i.dense.items ++ i.sparse.by_number.entries

abbrev pub spare_of : SlotIndex → ℕ
spare_of i = spare_numbers i.sparse
