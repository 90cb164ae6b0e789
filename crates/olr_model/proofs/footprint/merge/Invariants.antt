use Rattle.std.proofs.Common.{◌≡◌, ◌++◌, ◌+◌, ◌-◌, ◌≤◌, length, drop}
use Rattle.std.specs.Vec.{vec_capacity}
use Rattle.olr_model.proofs.Merging.{merged}
use Rattle.olr_model.proofs.footprint.merge.Given as goal

abbrev pub invariant-loop-i : goal.invariant-loop-i
invariant-loop-i l =
    record {
      left_in : l.i ≤ length l.left;
      right_in : l.j ≤ length l.right;
      few : length l.both.items ≤ l.i + l.j;
      room : length l.left + length l.right ≤ vec_capacity l.both;
      rest : l.both.items ++ merged (drop l.i l.left) (drop l.j l.right) ≡ merged l.left l.right;
    }

abbrev pub decreases-loop-i : goal.decreases-loop-i
decreases-loop-i l = length l.left + length l.right - (l.i + l.j)
