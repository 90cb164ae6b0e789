use Rattle.olr_log.proofs.Common.{◌≡◌, ◌++◌, take, vec_capacity, true, is_clean}
use Rattle.olr_log.proofs.unstored.push_bytes.Given as goal

abbrev pub invariant-loop-i : goal.invariant-loop-i
invariant-loop-i l =
    (l.text.items ≡ l.initial.text.items ++ take l.i l.bytes) × (vec_capacity l.text ≡ vec_capacity l.initial.text)
    × (is_clean (take l.i l.bytes) ≡ true)
