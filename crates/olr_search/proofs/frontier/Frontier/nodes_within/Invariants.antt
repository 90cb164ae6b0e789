use Rattle.olr_search.proofs.Common.{nat_le, filter, label_of, take, AreFilled, AreNodesIn}
use Rattle.olr_search.proofs.frontier.Frontier.nodes_within.Given as goal

abbrev pub invariant-loop-slot : goal.invariant-loop-slot
invariant-loop-slot g l =
    AreFilled (g.M.MapRead.map l.map) (g.M.MapRead.node_slot l.map) l.slot-items →
    AreNodesIn (g.M.MapRead.map l.map) (g.M.MapRead.node_slot l.map)
    (filter (λ p. nat_le (label_of l.self p) l.limit) (take l.slot-index l.slot-items)) l.nodes.items
