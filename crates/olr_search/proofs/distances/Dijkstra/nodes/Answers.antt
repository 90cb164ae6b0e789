use Rattle.olr_search.proofs.Common.{IsNonDecreasingBy-from_sort, IsStrictlyIncreasing-from_distinct}
use Rattle.olr_search.proofs.NearLemmas.{filled, moved_distinct, moved_exactly}
use Rattle.olr_search.proofs.distances.Dijkstra.nodes.Goals as goal

pub returns-clause-ascending : goal.returns-clause-ascending
returns-clause-ascending g c = λ direction from h.
    let s = c.args.self.now in
    IsStrictlyIncreasing-from_distinct _ (IsNonDecreasingBy-from_sort (λ n. n) _ c.sort_unstable.ensures.sorted)
    (moved_distinct _ _ direction from s h _ _ (c.in_ok-nodes.ensures (filled _ _ direction from s h))
    c.sort_unstable.ensures.permutation)

pub returns-clause-nodes : goal.returns-clause-nodes
returns-clause-nodes g c = λ direction from v h.
    let s = c.args.self.now in
    moved_exactly _ _ direction from s h _ _ (c.in_ok-nodes.ensures (filled _ _ direction from s h))
    c.sort_unstable.ensures.permutation v
