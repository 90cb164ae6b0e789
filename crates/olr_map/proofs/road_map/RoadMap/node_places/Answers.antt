use Rattle.olr_map.proofs.AllIds.{in_columns}
use Rattle.olr_map.proofs.road_map.RoadMap.node_places.Goals as goal

pub returns-clause-nodes : goal.returns-clause-nodes
returns-clause-nodes c =
    in_columns c.args.self.now c.as_slice-ids.result.now c.as_slice-places.result.now c.as_slice-ids.ensures.value
    c.as_slice-places.ensures.value
