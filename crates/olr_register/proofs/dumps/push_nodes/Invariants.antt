use Rattle.olr_register.proofs.Common.{◌≡◌, ◌++◌, take, flat_map, coord_at, map_of, record_line, node_change}
use Rattle.olr_register.proofs.dumps.push_nodes.Given as goal

abbrev pub invariant-loop-id : goal.invariant-loop-id
invariant-loop-id l =
    l.text.items ≡ l.initial.text.items
    ++ flat_map (λ v. record_line (node_change (v, coord_at (map_of l.fn.roads) v))) (take l.id-index l.ids)
