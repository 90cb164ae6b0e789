-- Edits and their faults as those of the specification.
--     edit_of e      the edit
--     edit_fault_of f      the answer if the map rejects with f;  out of memory is not a fault of the map
--     allocates e      the edit adds or removes a node or a line, for which the map allocates
use Rattle.std.specs.Prelude.{Bool, true, false}
use Rattle.olr_spec.specs.Map as map
use Rattle.olr_model.specs.declared.edit.Edit.{Edit}
use Rattle.olr_model.specs.declared.edit.Edit.TheVariants.{AddNode, MoveNode, DropNode, AddLine, SetLine, DropLine}
use Rattle.olr_model.specs.declared.edit.EditFault.{EditFault}
use Rattle.olr_model.specs.declared.edit.EditFault.TheVariants.{NodeExists, NoNode, LineExists, NoLine, NodeInUse}
use Rattle.olr_model.specs.declared.edit.EditFault.TheVariants.{BadShape}

abbrev pub edit_of : Edit → map.Edit
edit_of (AddNode id place) = map.Add_node id place
edit_of (MoveNode id place) = map.Move_node id place
edit_of (DropNode id) = map.Drop_node id
edit_of (AddLine id line) = map.Add_line id line
edit_of (SetLine id frc fow len shape) = map.Set_line id frc fow len shape.items
edit_of (DropLine id) = map.Drop_line id

abbrev pub edit_fault_of : map.MapFault → EditFault
edit_fault_of map.Node_exists = NodeExists
edit_fault_of map.No_node = NoNode
edit_fault_of map.Line_exists = LineExists
edit_fault_of map.No_line = NoLine
edit_fault_of map.Node_in_use = NodeInUse
edit_fault_of map.Bad_shape = BadShape

-- a node that is moved and a line that is set are replaced where they are
abbrev pub allocates : map.Edit → Bool
allocates (map.Move_node id place) = false
allocates (map.Set_line id frc fow len shape) = false
allocates _ = true
