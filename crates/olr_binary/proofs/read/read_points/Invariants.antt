use Rattle.olr_binary.proofs.Common.{◌≡◌, ◌+◌, ◌*◌, slice_range, AllByRecursion, flat_map, IsMiddle, middle_bytes}
use Rattle.olr_binary.proofs.read.read_points.Given as goal

abbrev pub invariant-loop-i : goal.invariant-loop-i
invariant-loop-i l =
    record {
      encoded : flat_map middle_bytes l.points.items ≡ slice_range l.bytes 10 (10 + 7 * l.i);
      fits : AllByRecursion IsMiddle l.points.items;
    }
