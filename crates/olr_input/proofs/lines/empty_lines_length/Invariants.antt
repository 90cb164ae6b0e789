use Rattle.olr_input.proofs.Common.{◌≡◌, drop, false}
use Rattle.olr_input.specs.Lines.{has_line}
use Rattle.olr_input.proofs.lines.empty_lines_length.Given as goal

abbrev pub invariant-loop-i : goal.invariant-loop-i
invariant-loop-i l = has_line false l.bytes ≡ has_line false (drop l.i l.bytes)
