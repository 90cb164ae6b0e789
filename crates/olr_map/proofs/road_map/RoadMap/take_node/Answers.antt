use Rattle.olr_map.proofs.Common.{is_some, ap, sym, ◌∙◌, refl, slot_by, Some, None, Out, In}
use Rattle.olr_map.proofs.NodeChanges.{NodeWritten, node_written, slot_taken, take_kept, taken_empty, take_made}
use Rattle.olr_map.proofs.road_map.RoadMap.take_node.Goals.{After-take-entry}
use Rattle.olr_map.proofs.road_map.RoadMap.take_node.Goals as goal

pub take-slot-requires : goal.take-slot-requires
take-slot-requires c =
    let t = c.args.self.now in
    let s = slot_taken t c.args.id c.requires in
    ap (λ o. is_some o) (ap (slot_by t.index) c.number.ensures.same ∙ s.1)

written : (c : After-take-entry) → NodeWritten c.args.self.now c.take-slot.new.self c.take-entry.new.self c.args.id
    (Some c.take-entry.result) None
written c =
    node_written c.take-slot.result _ c.take-entry.ensures.removes c.number.ensures.same
    (ap (slot_by c.args.self.now.index) (sym c.number.ensures.same) ∙ c.take-slot.ensures.was) c.take-slot.ensures.taken refl

pub into_empty-requires : goal.into_empty-requires
into_empty-requires c = taken_empty (written (goal.at.into_empty-requires c).After-take-entry) c.requires Out

pub into_empty-requires-2 : goal.into_empty-requires-2
into_empty-requires-2 c = taken_empty (written (goal.at.into_empty-requires-2 c).After-take-entry) c.requires In

pub invariant_of-self : goal.invariant_of-self
invariant_of-self c = record { kept = take_kept (written (goal.at.invariant_of-self c).After-take-entry) c.requires }

pub returns-clause-made : goal.returns-clause-made
returns-clause-made c =
    (take_made (written (goal.at.returns-clause-made c).After-take-entry) c.requires c.take-entry.ensures.room
    c.take-slot.ensures.spare _ _ c.into_empty.ensures.lines c.into_empty-2.ensures.lines c.into_empty.ensures.room
    c.into_empty-2.ensures.room).made _
