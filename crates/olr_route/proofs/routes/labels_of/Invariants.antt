use Rattle.olr_route.proofs.Common.{◌≡◌, ◌<◌, ◌∷◌, [], ℕ, None, length, get_or, Along, IsLabel, IsSearch}
use Rattle.olr_search.specs.Searches.{limit_of}
use Rattle.olr_route.proofs.routes.labels_of.Given as goal

abbrev pub invariant-loop-node : goal.invariant-loop-node
invariant-loop-node g l = record {
  beside : length l.labels.items ≡ l.node-index;
  each : (s i : ℕ) → IsSearch (g.M.MapRead.map l.map) (g.M.MapRead.node_slot l.map) Along ((s, 0) ∷ []) l.settled →
      i < l.node-index →
      IsLabel (g.M.MapRead.map l.map) s (limit_of l.settled) (get_or l.node-items i 0) (get_or l.labels.items i (0, None));
}
