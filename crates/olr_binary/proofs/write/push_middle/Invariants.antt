use Rattle.olr_binary.proofs.Common.{◌≡◌, ◌++◌, take, flat_map, middle_bytes}
use Rattle.olr_binary.proofs.write.push_middle.Given as goal

-- the LRPs so far are written
abbrev pub invariant-loop-point : goal.invariant-loop-point
invariant-loop-point l = l.bytes.items ≡ l.initial.bytes.items ++ flat_map middle_bytes (take l.point-index l.points)
