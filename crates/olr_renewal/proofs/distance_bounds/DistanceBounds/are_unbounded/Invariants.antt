use Rattle.olr_renewal.proofs.Common.{◌<◌, ℕ, get_or, IsUnbounded}
use Rattle.olr_renewal.proofs.distance_bounds.DistanceBounds.are_unbounded.Given as goal

abbrev pub invariant-loop-node : goal.invariant-loop-node
invariant-loop-node g l =
    (j : ℕ) → j < l.node-index →
    IsUnbounded (g.M.MapRead.map l.map) (g.M.MapRead.node_slot l.map) l.self (get_or l.nodes j 0)
