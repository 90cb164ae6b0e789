use Rattle.olr_search.proofs.Common.{◌≡◌, ◌≤◌, ◌<◌, ℕ, IsTrue, get_or, has_node, label_of, IsQueued, IsLabelled, GREATEST_LIMIT}
use Rattle.olr_search.proofs.Common.{IsBegunAt}
use Rattle.olr_search.proofs.distances.Dijkstra.begin.Given as goal

abbrev pub invariant-loop-begin : goal.invariant-loop-begin
invariant-loop-begin g l = record {
  labelled : IsLabelled (g.M.MapRead.map l.map) (g.M.MapRead.node_slot l.map) l.fn.direction l.from l.self.frontier;
  begun : (j : ℕ) → j < l.begin-index → IsTrue (has_node (g.M.MapRead.map l.map) (get_or l.from j (0, 0)).0)
      → label_of l.self.frontier (g.M.MapRead.node_slot l.map (get_or l.from j (0, 0)).0) ≤ (get_or l.from j (0, 0)).1;
  front : (p : ℕ) → label_of l.self.frontier p ≤ GREATEST_LIMIT →
      IsQueued l.self.frontier (label_of l.self.frontier p) p;
  near : (p : ℕ) → label_of l.self.frontier p ≤ GREATEST_LIMIT →
      IsBegunAt (g.M.MapRead.map l.map) (g.M.MapRead.node_slot l.map) l.from (label_of l.self.frontier) p;
  way : l.self.direction ≡ l.fn.direction;
  limit : l.self.limit ≡ 0;
}
