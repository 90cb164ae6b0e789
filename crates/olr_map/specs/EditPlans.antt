-- What an edit touches on a map that accepts it, as one value.
--     planned_changes j      its line as a changed one, if the edit can change routes
--     IsEditPlan M slot e j      the map accepts edit e, and j is what it touches: nodes with their slots, and a line
--         with its change
--     AreSlots b M at e, AreEnds M nodes e      at: the slots of the nodes of e that exist before it; nodes: the
--         ends of the line that e sets
use Rattle.std.specs.Prelude.{◌≡◌, ◌==◌, ◌||◌, ℕ, List, map, Some, IsTrue, IsOk, ⊤}
use Rattle.std.specs.Option.{option_to_list}
use Rattle.olr_spec.specs.Map as maps
use Rattle.olr_spec.specs.Map.{Map, has_node, start, end, edited, touched_nodes, touched_lines, has, HasCoord}
use Rattle.olr_spec.specs.Detours.{ChangedLine, changes_of}
use Rattle.olr_map.specs.SlotIndexes.{slot_by}
use Rattle.olr_map.specs.declared.slot_index.SlotIndex.{SlotIndex}
use Rattle.olr_map.specs.declared.judging.EditPlan.{EditPlan}

abbrev pub planned_changes : EditPlan → List ChangedLine
planned_changes j = map (λ len. record { from = j.nodes.0; to = j.nodes.1; len = len }) (option_to_list j.changed)

-- the ends of the line that e sets
abbrev pub AreEnds : Map → ℕ × ℕ → maps.Edit → Type 0
AreEnds M nodes (maps.Set_line x frc fow len shape) = (nodes.0 ≡ start M x) × (nodes.1 ≡ end M x)
AreEnds M nodes _ = ⊤

pub record IsEditPlan (M : Map) (slot : ℕ → ℕ) (e : maps.Edit) (j : EditPlan) : Type 0 where
  pub accepted : IsOk (edited M e)
  pub placed : HasCoord e
  pub nodes : (v : ℕ) → has (touched_nodes M e) v ≡ ((j.nodes.0 == v) || (j.nodes.1 == v))
  pub lines : option_to_list j.line ≡ touched_lines e
  pub changes : planned_changes j ≡ changes_of M e
  pub ends : AreEnds M j.nodes e
  pub first : IsTrue (has_node M j.nodes.0) → slot j.nodes.0 ≡ j.slots.0
  pub second : IsTrue (has_node M j.nodes.1) → slot j.nodes.1 ≡ j.slots.1

abbrev pub AreSlots : SlotIndex → Map → ℕ × ℕ → maps.Edit → Type 0
AreSlots b M at (maps.Move_node v c) = slot_by b v ≡ Some at.0
AreSlots b M at (maps.Add_line x l) = (slot_by b l.from ≡ Some at.0) × (slot_by b l.to ≡ Some at.1)
AreSlots b M at (maps.Set_line x frc fow len shape) =
    (slot_by b (start M x) ≡ Some at.0) × (slot_by b (end M x) ≡ Some at.1)
AreSlots b M at (maps.Drop_line x) = (slot_by b (start M x) ≡ Some at.0) × (slot_by b (end M x) ≡ Some at.1)
AreSlots b M at _ = ⊤
