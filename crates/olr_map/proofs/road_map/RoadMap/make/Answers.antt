use Rattle.olr_map.proofs.Making.{edit_made}
use Rattle.olr_map.proofs.Verdicts.{plan_slots, slots_reserved}
use Rattle.olr_map.proofs.road_map.RoadMap.make.Goals as goal

pub make_room-requires-clause-slots : goal.make_room-requires-clause-slots
make_room-requires-clause-slots c = plan_slots c.args.self.now _ _ c.requires

pub make_change-requires-clause-slots : goal.make_change-requires-clause-slots
make_change-requires-clause-slots c =
    slots_reserved _ _ _ _ _ c.make_room.ensures.same c.change_for-change.ensures.same (plan_slots c.args.self.now _ _ c.requires)

pub returns-clause-done : goal.returns-clause-done
returns-clause-done c =
    edit_made _ _ _ _ _ c.requires.accepted c.make_room.ensures.same.map c.change_for-change.ensures.same
    c.make_change.ensures.made.changed.map
