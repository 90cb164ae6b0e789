use Rattle.olr_log.proofs.Common.{◌≡◌, ◌<◌, ◌++◌, take, vec_len, vec_capacity, true, join_with_byte, fields_of, is_clean}
use Rattle.olr_log.proofs.unstored.push_line.Given as goal

abbrev pub invariant-loop-i : goal.invariant-loop-i
invariant-loop-i l =
    (l.text.items ≡ l.initial.text.items ++ join_with_byte 44 (take l.i (fields_of l.fields)))
    × (0 < l.i → vec_len l.text < vec_capacity l.text)
    × (is_clean (join_with_byte 44 (take l.i (fields_of l.fields))) ≡ true)
