-- The bytes of records: fields separated by commas, and a line feed at the end.
--     fields_line fields      the line of these fields
--     fields_of_change x, record_line x      the fields of the record of a change, and its line
use Rattle.std.specs.Prelude.{ℕ, List, [], ◌∷◌, ◌++◌, map, codes, decimal}
use Rattle.std.specs.List.{join_with_byte}
use Rattle.olr_spec.specs.Coordinates.{Coord}
use Rattle.olr_spec.specs.Map.{ShapePoint, Edit, Add_node, Move_node, Drop_node, Add_line, Set_line, Drop_line}
use Rattle.olr_spec.specs.Extension.{Path}
use Rattle.olr_coords.specs.DegreesText.{degrees_text}
use Rattle.olr_commands.specs.State.{Change, On_map, Add_path, Set_path, Drop_path, Set_margin}

-- a comma before each field
abbrev pub after_commas : List (List ℕ) → List ℕ
after_commas [] = []
after_commas (f ∷ fs) = 44 ∷ (f ++ after_commas fs)

abbrev pub fields_line : List (List ℕ) → List ℕ
fields_line fields = join_with_byte 44 fields ++ 10 ∷ []

-- ---- fields

abbrev pub fields_of_coord : Coord → List (List ℕ)
fields_of_coord c = degrees_text c.lon ∷ degrees_text c.lat ∷ []

-- a distance and a coordinate for each shape point
abbrev pub fields_of_shape : List ShapePoint → List (List ℕ)
fields_of_shape [] = []
fields_of_shape (s ∷ ss) = decimal s.at ∷ degrees_text s.place.lon ∷ degrees_text s.place.lat ∷ fields_of_shape ss

-- a line without its number and its ends
abbrev pub fields_of_attributes : ℕ → ℕ → ℕ → List ShapePoint → List (List ℕ)
fields_of_attributes frc fow len shape = decimal frc ∷ decimal fow ∷ decimal len ∷ fields_of_shape shape

abbrev pub fields_of_edit : Edit → List (List ℕ)
fields_of_edit (Add_node v c) = codes "node" ∷ decimal v ∷ fields_of_coord c
fields_of_edit (Move_node v c) = codes "move" ∷ decimal v ∷ fields_of_coord c
fields_of_edit (Drop_node v) = codes "drop-node" ∷ decimal v ∷ []
fields_of_edit (Add_line x l) =
    codes "line" ∷ decimal x ∷ decimal l.from ∷ decimal l.to ∷ fields_of_attributes l.frc l.fow l.len l.shape
fields_of_edit (Set_line x frc fow len shape) =
    codes "set-line" ∷ decimal x ∷ fields_of_attributes frc fow len shape
fields_of_edit (Drop_line x) = codes "drop-line" ∷ decimal x ∷ []

-- the name, both offsets and the lines
abbrev pub fields_of_path : List ℕ → Path → List (List ℕ)
fields_of_path name path = name ∷ decimal path.pos ∷ decimal path.neg ∷ map decimal path.lines

abbrev pub fields_of_change : Change → List (List ℕ)
fields_of_change (On_map e) = fields_of_edit e
fields_of_change (Add_path name path) = codes "path" ∷ fields_of_path name path
fields_of_change (Set_path name path) = codes "repath" ∷ fields_of_path name path
fields_of_change (Drop_path name) = codes "drop-path" ∷ name ∷ []
fields_of_change (Set_margin g) = codes "margin" ∷ decimal g.routes ∷ decimal g.classes ∷ []

-- ---- records

abbrev pub record_line : Change → List ℕ
record_line x = fields_line (fields_of_change x)
