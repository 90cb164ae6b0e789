use Rattle.olr_refs.proofs.Common.{◌≡◌, ◌+◌, take, legs, middle_points_of}
use Rattle.olr_refs.proofs.lrp_fields.middle_points.Given as goal

-- the LRPs between the first and the one at index k
abbrev pub invariant-loop-k : goal.invariant-loop-k
invariant-loop-k g l =
    l.middle.items ≡ middle_points_of l.resolved.margin (legs (g.M.MapRead.map l.resolved.map.now) l.resolved.lines.now)
    (take (l.k + 1) l.points)
