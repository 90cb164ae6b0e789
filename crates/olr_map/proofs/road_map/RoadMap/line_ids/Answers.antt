use Rattle.olr_map.proofs.Common.{◌∙◌}
use Rattle.olr_map.proofs.AllIds.{sorted_lines}
use Rattle.olr_map.proofs.road_map.RoadMap.line_ids.Goals as goal

pub returns : goal.returns
returns c =
    sorted_lines c.args.self.now _ _ _ (c.deref.ensures.value ∙ c.in_ok-nodes.ensures) c.in_ok-ids.ensures
    c.sort_unstable.ensures.permutation c.sort_unstable.ensures.sorted
