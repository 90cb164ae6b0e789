use Rattle.olr_map.proofs.Common.{◌∷◌, List, ◌∙◌, ap, sym, subst, arith, tables_map, room_of, CanMakeAll, TableChange}
use Rattle.olr_map.proofs.Common.{node_numbers, line_numbers, log_changes}
use Rattle.olr_map.proofs.Capacity.{within_trans}
use Rattle.olr_map.proofs.Log.{one_more, all_on}
use Rattle.olr_map.proofs.Making.{edit_made}
use Rattle.olr_map.proofs.Verdicts.{plan_slots, slots_reserved}
use Rattle.olr_map.proofs.road_map.RoadMap.make_into.Goals as goal

pub returns-clause-can_undo : goal.returns-clause-can_undo
returns-clause-can_undo c =
    let old = c.args.self.now in
    let mid = c.make_room.new.self in
    let new = c.make_change-back.new.self in
    let back = c.make_change-back.result in
    let made = c.make_change-back.ensures.made in
    let order = c.push.ensures.more ∙ ap (λ (cs : List TableChange). back ∷ cs) c.reserve.ensures.same in
    let all =
    subst (λ (cs : List TableChange). CanMakeAll (tables_map new) (room_of new) cs) (sym order)
    (one_more (tables_map old) (tables_map new) (room_of old) (room_of new) back (log_changes c.args.log.now)
    c.requires.log.0 made.can_back (made.before ∙ c.make_room.ensures.same.map)
    (within_trans (room_of old) (room_of mid) _ c.make_room.ensures.same.more made.room_before)) in
    let numbers = c.in_ok-make_room.ensures.numbers in
    let nodes_put = c.make_change-back.ensures.nodes ∙ ap (λ e. node_numbers e) c.change_for-change.ensures.same in
    let lines_put = c.make_change-back.ensures.lines ∙ ap (λ e. line_numbers e) c.change_for-change.ensures.same in
    let pushed = c.push.ensures in
    (all, record { nodes = omega arith; lines = omega arith })

pub returns-in_err-make_room-clause-can_undo : goal.returns-in_err-make_room-clause-can_undo
returns-in_err-make_room-clause-can_undo c =
    let old = c.args.self.now in
    let mid = c.make_room.new.self in
    let same = c.make_room.ensures.same in
    let before = c.requires.log.1 in
    let log = c.reserve.ensures in (
      subst (λ (cs : List TableChange). CanMakeAll (tables_map mid) (room_of mid) cs) (sym c.reserve.ensures.same)
          (all_on (tables_map old) (tables_map mid) (room_of old) (room_of mid) (log_changes c.args.log.now)
          c.make_room.ensures.same.map c.make_room.ensures.same.more c.requires.log.0),
      record { nodes = omega arith; lines = omega arith },
    )

pub make_room-requires-clause-slots : goal.make_room-requires-clause-slots
make_room-requires-clause-slots c = plan_slots c.args.self.now _ _ c.requires.plan

pub make_change-back-requires-clause-slots : goal.make_change-back-requires-clause-slots
make_change-back-requires-clause-slots c =
    slots_reserved _ _ _ _ _ c.make_room.ensures.same c.change_for-change.ensures.same
    (plan_slots c.args.self.now _ _ c.requires.plan)

pub returns-clause-done : goal.returns-clause-done
returns-clause-done c =
    edit_made _ _ _ _ _ c.requires.plan.accepted c.make_room.ensures.same.map c.change_for-change.ensures.same
    c.make_change-back.ensures.made.changed.map
