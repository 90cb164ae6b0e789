-- Which lines and nodes records can encode, by their numbers.
--     is_recordable_line_at M x, is_recordable_node_at M v      the line;  the node and the lines that leave it
use Rattle.std.specs.Prelude.{ℕ, Bool, ◌&&◌}
use Rattle.std.specs.List.{list_all}
use Rattle.olr_spec.specs.Map.{Map, line_at, coord_at, lines_out}
use Rattle.olr_commands.specs.Recordable.{is_recordable_coord, is_recordable_shape}

abbrev pub is_recordable_line_at : Map → ℕ → Bool
is_recordable_line_at M x = is_recordable_shape (line_at M x).shape

abbrev pub is_recordable_node_at : Map → ℕ → Bool
is_recordable_node_at M v = is_recordable_coord (coord_at M v) && list_all (is_recordable_line_at M) (lines_out M v)
