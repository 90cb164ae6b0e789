use Rattle.olr_ambiguity.proofs.Common.{◌≡◌, ℕ, ◌<◌, get_or, Contains, Placed, ArePlaced}
use Rattle.olr_ambiguity.proofs.grid.Grid.of.Given as goal

-- the nodes so far
abbrev pub invariant-loop-id : goal.invariant-loop-id
invariant-loop-id g l =
    record {
      right : ArePlaced (g.M.MapRead.map l.map) l.nodes.items;
      whole : (k : ℕ) → k < l.id-index → (e : Placed) × Contains l.nodes.items e × (e.node ≡ get_or l.ids k 0);
    }
