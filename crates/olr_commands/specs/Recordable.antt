-- What records can encode: a coordinate in whole steps of 10^-7 degree, and a name of 1 to 64 bytes.
--     is_name f      a name in a record
--     is_recordable_coord c, is_recordable_shape ss      coordinates that degrees can write exactly
--     is_recordable_map M      a map whose coordinates all are
--     has_node_record M v, has_line_records M x      the node's is;  those of the line and of its ends are
use Rattle.std.specs.Prelude.{ℕ, Bool, ◌&&◌, ◌||◌, List, length, nat_le, ◌==◌}
use Rattle.std.specs.List.{list_all}
use Rattle.std.specs.Char.{is_ascii_alphanumeric}
use Rattle.std.specs.FinMap.{entries}
use Rattle.olr_spec.specs.Coordinates.{Coord}
use Rattle.olr_spec.specs.Map.{ShapePoint, Map, coord_at, line_at, start, end}
use Rattle.olr_coords.specs.DegreesText.{has_degrees_text}

-- a letter, a digit, `-`, `_` or `.`
abbrev pub is_name_byte : ℕ → Bool
is_name_byte c = is_ascii_alphanumeric c || (c == 45) || (c == 95) || (c == 46)

-- 1 to 64 such bytes
abbrev pub is_name : List ℕ → Bool
is_name f = nat_le 1 (length f) && nat_le (length f) 64 && list_all is_name_byte f

abbrev pub is_recordable_coord : Coord → Bool
is_recordable_coord c = has_degrees_text c.lon && has_degrees_text c.lat

abbrev pub is_recordable_shape : List ShapePoint → Bool
is_recordable_shape ss = list_all (λ s. is_recordable_coord s.place) ss

abbrev pub is_recordable_map : Map → Bool
is_recordable_map M =
    list_all (λ e. is_recordable_coord e.1) (entries M.nodes)
    && list_all (λ e. is_recordable_shape e.1.shape) (entries M.lines)

abbrev pub has_node_record : Map → ℕ → Bool
has_node_record M v = is_recordable_coord (coord_at M v)

abbrev pub has_line_records : Map → ℕ → Bool
has_line_records M x =
    has_node_record M (start M x) && has_node_record M (end M x) && is_recordable_shape (line_at M x).shape
