use Rattle.olr_map.proofs.Common.{◌≡◌, ◌∷◌, reverse, room_of, arith}
use Rattle.olr_map.proofs.Log.{last_of, rest_can, rest_made, rest_slots}
use Rattle.olr_map.proofs.road_map.RoadMap.undo_all.Goals as goal

pub loop-change-preserved : goal.loop-change-preserved
loop-change-preserved c =
    let l = c.loop-change in
    let last : reverse l.changes.items ≡ c.in-Some.change ∷ reverse c.pop.new.self.items = grind (arith, last_of) in
    record {
      can = grind (arith, rest_can);
      nodes = grind arith;
      lines = grind arith;
      before = grind (arith, rest_made);
      slots = λ none.
          rest_slots c.args.self.now l.self c.take_back.new.self (room_of l.self) _ _ _ last l.invariant.can (l.invariant.slots none) c.take_back.ensures.map
          c.take_back.ensures.slots;
    }
