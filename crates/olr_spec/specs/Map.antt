-- The directed road map, its edits, and when two maps agree around some nodes (White Paper, map model).
--     Line, ShapePoint, Map      a line from a node to a node with its functional road class (FRC), form of way (FOW),
--         length and shape, in decimetres; a coordinate on it; the nodes and lines by number
--     is_good l      FRC, FOW, length and shape are in range
--     IsMap M      a sound map: each line is good, both its ends are on the map, and each coordinate is in range
--     line_at M x, start, end, dm      the record of line x, its start node, its end node and its length
--     lines_in M v, lines_out M v      the lines that enter and leave v, in ascending order
--     Edit, edited M e      an edit; the map after it, or the first fault
--     touched_nodes M e, touched_lines e      the nodes and lines that it touches
--     HasCoord e      each coordinate that the edit adds is in range
--     has xs x      whether x is one of xs
--     Agree M N P F      the maps are the same around the nodes of F and in the lines of the list P
use Rattle.std.specs.Prelude.{◌≡◌, ℕ, pos, Bool, true, not, cond, ◌&&◌, ◌||◌, List, [], ◌∷◌, length, map, filter, Some}
use Rattle.std.specs.Prelude.{is_some, unwrap_or, Result, Ok, Err, nat_lt, nat_le, ◌==◌, ◌↔◌, IsTrue, ⊤}
use Rattle.std.specs.List.{list_all, list_any, AllByRecursion}
use Rattle.std.specs.Ordering.{nat_cmp}
use Rattle.std.specs.FinMap.{FinMap, get, insert, remove, entries, empty}
use Rattle.olr_spec.specs.Coordinates.{Coord, is_coord}

-- x is one of xs
abbrev pub has : List ℕ → ℕ → Bool
has xs x = list_any (λ y. y == x) xs

-- a coordinate on a line, with its distance from the line's start in decimetres
pub record ShapePoint : Type 0 where
  pub at : ℕ
  pub place : Coord

-- frc: the functional road class, 0 to 7, 0 the most important. fow: the form of way, 0 to 7 (White Paper, attributes).
-- len: in whole decimetres (profile). A two-way road is two lines
pub record Line : Type 0 where
  pub from : ℕ
  pub to : ℕ
  pub frc : ℕ
  pub fow : ℕ
  pub len : ℕ
  pub shape : List ShapePoint

-- the coordinates of the nodes, and the lines, by number
pub record Map : Type 0 where
  pub nodes : FinMap nat_cmp Coord
  pub lines : FinMap nat_cmp Line

abbrev pub empty_map : Map
empty_map = record { nodes = empty; lines = empty }

-- the distances increase strictly, and are strictly between low and high
abbrev pub ascends_between : ℕ → List ShapePoint → ℕ → Bool
ascends_between low [] high = true
ascends_between low (s ∷ ss) high = nat_lt low s.at && nat_lt s.at high && ascends_between s.at ss high

-- a line may end at its start node, and several lines may join the same two nodes; at most 100 km and 1,000 shape
-- points (profile)
abbrev pub is_good : Line → Bool
is_good l =
    nat_le l.frc 7 && nat_le l.fow 7 && nat_le 1 l.len && nat_le l.len 1000000 && nat_le (length l.shape) 1000
    && ascends_between 0 l.shape l.len

-- each shape point has a coordinate in range
abbrev pub are_coords : List ShapePoint → Bool
are_coords ss = list_all (λ s. is_coord s.place) ss

abbrev pub has_node : Map → ℕ → Bool
has_node M v = is_some (get M.nodes v)

abbrev pub has_line : Map → ℕ → Bool
has_line M x = is_some (get M.lines x)

-- the default for a line, and for the coordinate of a node, that isn't on the map
abbrev pub no_line : Line
no_line = record { from = 0; to = 0; frc = 0; fow = 0; len = 0; shape = [] }

abbrev pub no_coord : Coord
no_coord = record { lon = pos 0; lat = pos 0 }

abbrev pub line_at : Map → ℕ → Line
line_at M x = unwrap_or (get M.lines x) no_line

abbrev pub coord_at : Map → ℕ → Coord
coord_at M v = unwrap_or (get M.nodes v) no_coord

-- the start node of line x, its end node, and its length
abbrev pub start : Map → ℕ → ℕ
start M x = (line_at M x).from

abbrev pub end : Map → ℕ → ℕ
end M x = (line_at M x).to

abbrev pub dm : Map → ℕ → ℕ
dm M x = (line_at M x).len

-- a sound map
pub record IsMap (M : Map) : Type 0 where
  pub good : (x : ℕ) → IsTrue (has_line M x) → IsTrue (is_good (line_at M x))
  pub starts : (x : ℕ) → IsTrue (has_line M x) → IsTrue (has_node M (start M x))
  pub ends : (x : ℕ) → IsTrue (has_line M x) → IsTrue (has_node M (end M x))
  pub places : (v : ℕ) → IsTrue (has_node M v) → IsTrue (is_coord (coord_at M v))
  pub shapes : (x : ℕ) → IsTrue (has_line M x) → IsTrue (are_coords (line_at M x).shape)

-- the numbers of the lines that pass the test, in ascending order
abbrev pub lines_where : Map → (Line → Bool) → List ℕ
lines_where M test = map (λ e. e.0) (filter (λ e. test e.1) (entries M.lines))

-- the lines that enter v
abbrev pub lines_in : Map → ℕ → List ℕ
lines_in M v = lines_where M (λ l. l.to == v)

-- the lines that leave v
abbrev pub lines_out : Map → ℕ → List ℕ
lines_out M v = lines_where M (λ l. l.from == v)

-- ---- edits

pub data Edit : Type 0 where
  Add_node : (node : ℕ) (place : Coord) → Edit
  Move_node : (node : ℕ) (place : Coord) → Edit
  Drop_node : (node : ℕ) → Edit
  Add_line : (number : ℕ) (line : Line) → Edit
  Set_line : (number frc fow len : ℕ) (shape : List ShapePoint) → Edit
  Drop_line : (number : ℕ) → Edit

-- each coordinate that an edit adds is in range
abbrev pub HasCoord : Edit → Type 0
HasCoord (Add_node v c) = IsTrue (is_coord c)
HasCoord (Move_node v c) = IsTrue (is_coord c)
HasCoord (Add_line x l) = IsTrue (are_coords l.shape)
HasCoord (Set_line x frc fow len shape) = IsTrue (are_coords shape)
HasCoord _ = ⊤

pub data MapFault : Type 0 where
  Node_exists No_node Line_exists No_line Node_in_use Bad_shape : MapFault

-- a line enters or leaves the node
abbrev pub in_use : Map → ℕ → Bool
in_use M v = list_any (λ e. e.1.to == v || e.1.from == v) (entries M.lines)

-- the fault f if b holds, otherwise the result r
abbrev pub unless : {A F : Type 0} → Bool → F → Result A F → Result A F
unless {A} {F} b f r = cond b (Err f) r

-- the tests of each edit in order, and its update of one of the two finite maps; an edit that sets a line doesn't
-- change its ends (profile)
abbrev pub edited : Map → Edit → Result Map MapFault
edited M (Add_node v c) = unless (has_node M v) Node_exists (Ok (record M { nodes = insert M.nodes v c }))
edited M (Move_node v c) = unless (not (has_node M v)) No_node (Ok (record M { nodes = insert M.nodes v c }))
edited M (Drop_node v) =
    unless (not (has_node M v)) No_node (unless (in_use M v) Node_in_use (Ok (record M { nodes = remove M.nodes v })))
edited M (Add_line x l) =
    unless (has_line M x) Line_exists
    (unless (not (has_node M l.from && has_node M l.to)) No_node (unless (not (is_good l)) Bad_shape
    (Ok (record M { lines = insert M.lines x l }))))
edited M (Set_line x frc fow len shape) =
    let l : Line = record { from = start M x; to = end M x; frc = frc; fow = fow; len = len; shape = shape } in
    unless (not (has_line M x)) No_line
    (unless (not (is_good l)) Bad_shape (Ok (record M { lines = insert M.lines x l })))
edited M (Drop_line x) = unless (not (has_line M x)) No_line (Ok (record M { lines = remove M.lines x }))

-- the nodes that an edit touches: its own node, or both ends of its line
abbrev pub touched_nodes : Map → Edit → List ℕ
touched_nodes M (Add_node v c) = v ∷ []
touched_nodes M (Move_node v c) = v ∷ []
touched_nodes M (Drop_node v) = v ∷ []
touched_nodes M (Add_line x l) = l.from ∷ l.to ∷ []
touched_nodes M (Set_line x frc fow len shape) = start M x ∷ end M x ∷ []
touched_nodes M (Drop_line x) = start M x ∷ end M x ∷ []

-- the line that an edit touches
abbrev pub touched_lines : Edit → List ℕ
touched_lines (Add_line x l) = x ∷ []
touched_lines (Set_line x frc fow len shape) = x ∷ []
touched_lines (Drop_line x) = x ∷ []
touched_lines _ = []

-- ---- agreement

-- line x is on the map with the record l, and enters v, or leaves v
abbrev pub Enters : Map → ℕ → ℕ → Line → Type 0
Enters M v x l = (get M.lines x ≡ Some l) × (l.to ≡ v)

abbrev pub Leaves : Map → ℕ → ℕ → Line → Type 0
Leaves M v x l = (get M.lines x ≡ Some l) × (l.from ≡ v)

-- line x has the same record on both maps, or is on neither
abbrev pub SameLine : Map → Map → ℕ → Type 0
SameLine M N x = get M.lines x ≡ get N.lines x

-- node v has the same coordinate on both maps, and the same lines enter and leave it, with the same records
pub record SameRound (M N : Map) (v : ℕ) : Type 0 where
  pub place : get M.nodes v ≡ get N.nodes v
  pub entering : (x : ℕ) (l : Line) → Enters M v x l ↔ Enters N v x l
  pub leaving : (x : ℕ) (l : Line) → Leaves M v x l ↔ Leaves N v x l

-- the maps are the same around the nodes F of a footprint, and in the lines P of a path
pub record Agree (M N : Map) (P : List ℕ) (F : ℕ → Type 0) : Type 0 where
  pub nodes : (v : ℕ) → F v → SameRound M N v
  pub lines : AllByRecursion (SameLine M N) P
