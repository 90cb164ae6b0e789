use Rattle.olr_records.proofs.Common.{concat, middle_line, ◌≡◌, ◌++◌, map, take}
use Rattle.olr_records.proofs.reply.push_points.Given as goal

abbrev pub invariant-loop-point : goal.invariant-loop-point
invariant-loop-point l = l.text.items ≡ l.initial.text.items ++ concat (map middle_line (take l.point-index l.points))
