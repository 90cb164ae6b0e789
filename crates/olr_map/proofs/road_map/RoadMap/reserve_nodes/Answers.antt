use Rattle.olr_map.proofs.Common.{refl, arith}
use Rattle.olr_map.proofs.Capacity.{same_kept, same_reserved}
use Rattle.olr_map.proofs.road_map.RoadMap.reserve_nodes.Goals as goal

pub invariant_of-self : goal.invariant_of-self
invariant_of-self c =
    record { kept = same_kept c.args.self.now c.reserve.new.self c.args.self.now.lines c.reserve.ensures.same (λ k. refl) }

pub returns-clause-same : goal.returns-clause-same
returns-clause-same c =
    same_reserved c.args.self.now c.reserve.new.self _ c.reserve.ensures.same (λ k. refl) _
    c.reserve.ensures.more (omega arith)
