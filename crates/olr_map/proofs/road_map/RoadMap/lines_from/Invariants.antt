use Rattle.olr_map.proofs.Common.{◌≡◌, take, flat_map, lines_out, tables_map}
use Rattle.olr_map.proofs.road_map.RoadMap.lines_from.Given as goal

abbrev pub invariant-loop-node : goal.invariant-loop-node
invariant-loop-node l = l.ids.items ≡ flat_map (lines_out (tables_map l.fn.self)) (take l.node-index l.nodes)
