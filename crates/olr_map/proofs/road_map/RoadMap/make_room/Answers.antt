-- Where several calls reserve capacity: what each leaves, in turn.
use Rattle.olr_map.proofs.Common.{◌∙◌}
use Rattle.std.proofs.lemmas.Result.{on_ok_weaker}
use Rattle.olr_map.proofs.Capacity.{both_fit}
use Rattle.olr_map.proofs.road_map.RoadMap.make_room.Goals as goal

pub returns-in_ok-reserve_link-in-AddLine-clause-room : goal.returns-in_ok-reserve_link-in-AddLine-clause-room
returns-in_ok-reserve_link-in-AddLine-clause-room c =
    let slots = rw c.in-AddLine.is at c.requires.slots in
    let stay = c.reserve_lines.ensures.same.slots in
    rw c.in-AddLine.is (on_ok_weaker c.reserve_link-in-AddLine.result
    (both_fit c.reserve_lines.new.self c.reserve_link.new.self c.reserve_link-in-AddLine.new.self c.in-AddLine.field-0
    c.in-AddLine.field-1 c.args.slots.0 c.args.slots.1 (stay _ ∙ slots.0, stay _ ∙ slots.1) c.reserve_link.ensures.same
    c.reserve_link-in-AddLine.ensures.same c.in_ok-reserve_link-in-AddLine.ensures.room)
    c.reserve_link-in-AddLine.ensures.room)
