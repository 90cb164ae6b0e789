use Rattle.olr_search.proofs.Common.{sym, ◌∙◌, none-some}
use Rattle.olr_search.proofs.SearchLemmas.{distance_node}
use Rattle.olr_search.proofs.distances.Dijkstra.dist.Goals as goal

pub returns-in_err-slot : goal.returns-in_err-slot
returns-in_err-slot g c = λ direction from d h. (
  λ e. absurd (none-some d (sym c.from_residual.ensures ∙ e)),
  λ y. absurd (c.in_err-slot.ensures
      (distance_node (g.M.MapRead.map c.args.map.now) (g.M.MapRead.node_slot c.args.map.now) direction from
      c.args.self.now h c.args.node d y.0)),
)

pub returns : goal.returns
returns g c = λ direction from d h.
    c.dist_at.ensures (g.M.MapRead.map c.args.map.now) (g.M.MapRead.node_slot c.args.map.now) direction from c.args.node
    d h c.in_ok-slot.ensures.0 (sym c.in_ok-slot.ensures.1)
