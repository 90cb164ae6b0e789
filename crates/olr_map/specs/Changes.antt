-- Changes of the tables, each with the change that undoes it.
--     change_edit c      the edit that a change makes
--     Room, room_of t      the capacity for more nodes, and for the lines at each node
--     CanMake M R c      on this map, with this capacity, the change is accepted and does not allocate
--     map_after M c, room_after R c      the map and the capacity after it
--     IsReserved old new      the same map, with at least the capacity
--     KeepsSlots old new      each node that is on both maps has the same slot on both
--     AddsNoNode old new      each node of the new map was on the old one, in the same slot
--     IsChanged old new c      the change was made: its map, with at least its capacity
--     IsChangeMade old new c back      and `back` can undo it
use Rattle.std.specs.Prelude.{◌≡◌, ◌==◌, ℕ, ◌+◌, ◌-◌, ◌<◌, ◌≤◌, if◌then◌else◌, List, [], ◌∷◌, length, ⊤, IsOk, IsTrue}
use Rattle.std.specs.Option.{option_map_or}
use Rattle.std.specs.Result.{result_unwrap_or}
use Rattle.olr_spec.specs.Map as map
use Rattle.olr_spec.specs.Map.{Map, has_node, start, end, edited, HasCoord}
use Rattle.olr_map.specs.SlotIndexes.{slot_by, spare_of}
use Rattle.olr_map.specs.NumberTables.{all_held, spare_numbers}
use Rattle.olr_map.specs.Linked.{lines_kept, room_kept, links_room}
use Rattle.olr_map.specs.Columns.{node_slots, node_room}
use Rattle.olr_map.specs.Tables.{near, sides, lines_at, map_from, node_slot, links_in}
use Rattle.olr_map.specs.declared.slots.Side.{Side}
use Rattle.olr_map.specs.declared.road_map.RoadMap.{RoadMap}
use Rattle.olr_map.specs.declared.change.TableChange.{TableChange}
use Rattle.olr_map.specs.declared.change.TableChange.TheVariants.{PutNode, MoveNode, TakeNode, PutLine, SetLine}
use Rattle.olr_map.specs.declared.change.TableChange.TheVariants.{TakeLine}

abbrev pub change_edit : TableChange → map.Edit
change_edit (PutNode id place outs ins) = map.Add_node id place
change_edit (MoveNode id place) = map.Move_node id place
change_edit (TakeNode id) = map.Drop_node id
change_edit (PutLine id line) = map.Add_line id line
change_edit (SetLine id line) = map.Set_line id line.frc line.fow line.len line.shape
change_edit (TakeLine id) = map.Drop_line id

-- the capacity for more nodes, and for the lines that leave and that enter each node
pub record Room : Type 0 where
  pub nodes : ℕ
  pub lines : Side → ℕ → ℕ

abbrev pub tables_map : RoadMap → Map
tables_map t = map_from t.index (node_slots t.nodes) (all_held t.lines)

abbrev pub room_at : Side → RoadMap → ℕ → ℕ
room_at side t v = option_map_or (λ l. links_room l) (links_in side t.index (node_slots t.nodes) v) 0

abbrev pub room_of : RoadMap → Room
room_of t = record { nodes = node_room t.nodes; lines = λ side. room_at side t }

-- how many node numbers, and line numbers, a change inserts
abbrev pub node_puts : TableChange → ℕ
node_puts (PutNode id place outs ins) = 1
node_puts _ = 0

abbrev pub line_puts : TableChange → ℕ
line_puts (PutLine id line) = 1
line_puts _ = 0

abbrev pub all_node_puts : List TableChange → ℕ
all_node_puts [] = 0
all_node_puts (c ∷ cs) = node_puts c + all_node_puts cs

abbrev pub all_line_puts : List TableChange → ℕ
all_line_puts [] = 0
all_line_puts (c ∷ cs) = line_puts c + all_line_puts cs

-- how many node numbers, and line numbers, an edit inserts or removes
abbrev pub node_numbers : map.Edit → ℕ
node_numbers (map.Add_node id place) = 1
node_numbers (map.Drop_node id) = 1
node_numbers _ = 0

abbrev pub line_numbers : map.Edit → ℕ
line_numbers (map.Add_line id line) = 1
line_numbers (map.Drop_line id) = 1
line_numbers _ = 0

-- there is capacity for the numbers
pub record HasNumbers (t : RoadMap) (n l : ℕ) : Type 0 where
  pub nodes : n ≤ spare_of t.index
  pub lines : l ≤ spare_numbers t.lines

-- at least as much capacity
pub record IsRoomWithin (R S : Room) : Type 0 where
  pub nodes : R.nodes ≤ S.nodes
  pub lines : (side : Side) (v : ℕ) → R.lines side v ≤ S.lines side v

-- the same map, with its nodes in the same slots, and at least as much capacity
pub record IsReserved (old new : RoadMap) : Type 0 where
  pub map : tables_map new ≡ tables_map old
  pub more : IsRoomWithin (room_of old) (room_of new)
  pub nodes : spare_of old.index ≤ spare_of new.index
  pub lines : spare_numbers old.lines ≤ spare_numbers new.lines
  pub slots : (v : ℕ) → slot_by new.index v ≡ slot_by old.index v

-- capacity for each node and line that the edit adds
abbrev pub HasRoomFor : Map → Room → map.Edit → Type 0
HasRoomFor M R (map.Add_node id place) = 0 < R.nodes
HasRoomFor M R (map.Add_line id line) =
    (side : Side) → length (lines_at side M (near side line)) < R.lines side (near side line)
HasRoomFor M R _ = ⊤

-- the function with another value at one number
abbrev pub changed_at : ℕ → ℕ → (ℕ → ℕ) → ℕ → ℕ
changed_at k n f v = if k == v then n else f v

abbrev pub room_after : Room → TableChange → Room
room_after R (PutNode id place outs ins) =
    record { nodes = R.nodes - 1; lines = λ side. changed_at id (room_kept (sides outs ins side)) (R.lines side) }
room_after R (TakeNode id) = record { nodes = R.nodes + 1; lines = λ side. changed_at id 0 (R.lines side) }
room_after R _ = R

-- a node that is added has no lines yet, and a line that is set keeps its ends
abbrev pub IsWhole : Map → TableChange → Type 0
IsWhole M (PutNode id place outs ins) = (lines_kept outs ≡ []) × (lines_kept ins ≡ [])
IsWhole M (SetLine id line) = (line.from ≡ start M id) × (line.to ≡ end M id)
IsWhole M _ = ⊤

pub record CanMake (M : Map) (R : Room) (c : TableChange) : Type 0 where
  pub accepted : IsOk (edited M (change_edit c))
  pub placed : HasCoord (change_edit c)
  pub fits : HasRoomFor M R (change_edit c)
  pub whole : IsWhole M c

abbrev pub map_after : Map → TableChange → Map
map_after M c = result_unwrap_or (edited M (change_edit c)) M

abbrev pub KeepsSlots : RoadMap → RoadMap → Type 0
KeepsSlots old new =
    (v : ℕ) → IsTrue (has_node (tables_map old) v) → IsTrue (has_node (tables_map new) v) →
    node_slot new.index v ≡ node_slot old.index v

abbrev pub AddsNoNode : RoadMap → RoadMap → Type 0
AddsNoNode old new =
    (v : ℕ) → IsTrue (has_node (tables_map new) v) →
    IsTrue (has_node (tables_map old) v) × (node_slot new.index v ≡ node_slot old.index v)

pub record IsChanged (old new : RoadMap) (c : TableChange) : Type 0 where
  pub map : tables_map new ≡ map_after (tables_map old) c
  pub room : IsRoomWithin (room_after (room_of old) c) (room_of new)
  pub slots : KeepsSlots old new
  pub node_numbers : spare_of old.index ≤ spare_of new.index + node_puts c
  pub line_numbers : spare_numbers old.lines ≤ spare_numbers new.lines + line_puts c

pub record IsChangeMade (old new : RoadMap) (c back : TableChange) : Type 0 where
  pub changed : IsChanged old new c
  pub can_back : CanMake (tables_map new) (room_of new) back
  pub before : map_after (tables_map new) back ≡ tables_map old
  pub room_before : IsRoomWithin (room_of old) (room_after (room_of new) back)
