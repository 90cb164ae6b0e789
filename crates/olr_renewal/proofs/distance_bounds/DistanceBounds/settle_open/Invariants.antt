use Rattle.olr_renewal.proofs.Common.{[], vec_len, to_do}
use Rattle.olr_renewal.proofs.BoundLemmas.{IsSettling}
use Rattle.olr_renewal.proofs.distance_bounds.DistanceBounds.settle_open.Given as goal

abbrev pub invariant-loop-node : goal.invariant-loop-node
invariant-loop-node g l =
    IsSettling (g.M.MapRead.map l.map) (g.M.MapRead.node_slot l.map) l.fn.self l.self.opened.items l.self

abbrev pub decreases-loop-node : goal.decreases-loop-node
decreases-loop-node g l = vec_len l.self.opened

abbrev pub invariant-loop-next : goal.invariant-loop-next
invariant-loop-next g l = IsSettling (g.M.MapRead.map l.map) (g.M.MapRead.node_slot l.map) l.fn.self [] l.self

abbrev pub decreases-loop-next : goal.decreases-loop-next
decreases-loop-next g l = to_do l.self.bounds
