use Rattle.olr_refs.proofs.Common.{true}
use Rattle.olr_refs.proofs.Reaching.{Tests}
use Rattle.olr_refs.proofs.reach.covered_to.Given as goal

-- the lines after line i, up to line k, are the unique shortest path, and the search is settled so far
abbrev pub invariant-loop-k : goal.invariant-loop-k
invariant-loop-k g l =
    Tests l.resolved.margin (g.M.MapRead.map l.resolved.map.now) (g.M.MapRead.node_slot l.resolved.map.now)
    l.resolved.lines.now l.i l.k l.within true l.search
