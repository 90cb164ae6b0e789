use Rattle.olr_map.proofs.Common.{refl, arith}
use Rattle.olr_map.proofs.Capacity.{same_kept, same_reserved}
use Rattle.olr_map.proofs.road_map.RoadMap.reserve_lines.Goals as goal

pub invariant_of-self : goal.invariant_of-self
invariant_of-self c =
    record { kept = same_kept c.args.self.now c.args.self.now.index c.reserve.new.self (λ k. refl) c.reserve.ensures.same }

pub returns-clause-same : goal.returns-clause-same
returns-clause-same c =
    same_reserved c.args.self.now _ c.reserve.new.self (λ k. refl) c.reserve.ensures.same _
    (omega arith) c.reserve.ensures.more
