use Rattle.olr_refs.proofs.Common.{◌-◌, length}
use Rattle.olr_refs.proofs.Querying.{Gone}
use Rattle.olr_refs.proofs.chosen.points.Given as goal

abbrev pub invariant-loop-last : goal.invariant-loop-last
invariant-loop-last g l =
    Gone l.resolved.margin (g.M.MapRead.map l.resolved.map.now) l.resolved.lines.now l.reuse l.positions.items l.last l.queries

-- the remaining positions
abbrev pub decreases-loop-last : goal.decreases-loop-last
decreases-loop-last g l = length l.initial.resolved.lines.now - l.last
