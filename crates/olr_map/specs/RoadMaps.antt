-- A road map as a map of the specification, and when an edit of it, or a list of edits, can be undone.
--     map_of m, slot_of m      its nodes and lines;  the slot of each node, which `slot_of` returns
--     CanUndo m u, map_undone m u      the map is as the edit left it, with capacity for what the undo puts back;
--         the map before the edit
--     CanMakeAll M R cs, made_all M cs      the changes can be made one after the other, without allocation;  the map
--         after them
--     log_changes log      the changes that undo the edits of a log, from the last edit to the first
--     dropped_nodes log      how many of its edits dropped a node
--     CanUndoAll m log, map_before m log      as for one edit, for all edits of a log
use Rattle.std.specs.Prelude.{ℕ, List, [], ◌∷◌, reverse, ⊤}
use Rattle.olr_spec.specs.Map.{Map}
use Rattle.olr_map.specs.Tables.{node_slot}
use Rattle.olr_map.specs.Changes.{tables_map, room_of, CanMake, HasNumbers, map_after, node_puts, line_puts}
use Rattle.olr_map.specs.Changes.{Room, room_after, all_node_puts}
use Rattle.olr_map.specs.declared.change.TableChange.{TableChange}
use Rattle.olr_map.specs.declared.road_map.RoadMap.{RoadMap}
use Rattle.olr_map.specs.declared.undo.Undo.{Undo}
use Rattle.olr_map.specs.declared.undo.UndoLog.{UndoLog}

abbrev pub map_of : RoadMap → Map
map_of m = tables_map m

abbrev pub slot_of : RoadMap → ℕ → ℕ
slot_of m = node_slot m.index

abbrev pub CanUndo : RoadMap → Undo → Type 0
CanUndo m u = CanMake (map_of m) (room_of m) u.change × HasNumbers m (node_puts u.change) (line_puts u.change)

abbrev pub map_undone : RoadMap → Undo → Map
map_undone m u = map_after (map_of m) u.change

abbrev pub CanMakeAll : Map → Room → List TableChange → Type 0
CanMakeAll M R [] = ⊤
CanMakeAll M R (c ∷ cs) = CanMake M R c × CanMakeAll (map_after M c) (room_after R c) cs

abbrev pub made_all : Map → List TableChange → Map
made_all M [] = M
made_all M (c ∷ cs) = made_all (map_after M c) cs

abbrev pub log_changes : UndoLog → List TableChange
log_changes log = reverse log.changes.items

abbrev pub dropped_nodes : UndoLog → ℕ
dropped_nodes log = all_node_puts (log_changes log)

abbrev pub CanUndoAll : RoadMap → UndoLog → Type 0
CanUndoAll m log = CanMakeAll (map_of m) (room_of m) (log_changes log) × HasNumbers m log.nodes log.lines

abbrev pub map_before : RoadMap → UndoLog → Map
map_before m log = made_all (map_of m) (log_changes log)
