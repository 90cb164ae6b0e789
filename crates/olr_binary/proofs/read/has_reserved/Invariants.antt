use Rattle.olr_binary.proofs.Common.{◌≡◌, ◌+◌, ◌-◌, ◌*◌}
use Rattle.olr_binary.proofs.LayoutLemmas.{some_reserved}
use Rattle.olr_binary.proofs.read.has_reserved.Given as goal

-- the bytes that are left decide the result
abbrev pub invariant-loop-i : goal.invariant-loop-i
invariant-loop-i l =
    some_reserved l.bytes (7 + 7 * l.i) (l.fn.layout.middle + 2 - l.i) ≡ some_reserved l.bytes 7 (l.fn.layout.middle + 2)
