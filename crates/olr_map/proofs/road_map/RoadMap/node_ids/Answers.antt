use Rattle.olr_map.proofs.AllIds.{sorted_nodes}
use Rattle.olr_map.proofs.road_map.RoadMap.node_ids.Goals as goal

pub returns : goal.returns
returns c =
    sorted_nodes c.args.self.now _ _ c.in_ok-ids.ensures c.sort_unstable.ensures.permutation c.sort_unstable.ensures.sorted
