use Rattle.olr_map.proofs.Capacity.{kept_none}
use Rattle.olr_map.proofs.road_map.RoadMap.new.Goals as goal

pub invariant_of-result : goal.invariant_of-result
invariant_of-result c =
    record {
      kept = kept_none c.new.result c.new-2.result c.new-3.result c.new.ensures c.new-2.ensures
          c.new-3.ensures;
    }
