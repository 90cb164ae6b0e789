-- Which command the fields of a record decode to.
--     Read A      a value, or the fault.
--     g ⊛ r      both values; if both fail, Syntax takes precedence over Range
--     digits low high f, longitude f, latitude f, name f      a field as a number, a coordinate or a name
--     read fields      the command of the record
--     HoldsList c, TakesMemory fields      the commands and the records whose reading takes memory
use Rattle.std.specs.Prelude.{ℕ, ◌<◌, Bool, ◌&&◌, List, [], ◌∷◌, length, nat_le, ℤ, Option, Some, None}
use Rattle.std.specs.Prelude.{Result, Ok, Err, IsOkAnd, if◌then◌else◌, ⊤}
use Rattle.olr_spec.specs.Coordinates.{Coord, is_longitude, is_latitude}
use Rattle.olr_spec.specs.Degrees.{are_digits, digits_value, degrees}
use Rattle.olr_spec.specs.Map.{ShapePoint, Line, Edit, Add_node, Move_node, Drop_node, Add_line, Set_line, Drop_line}
use Rattle.olr_spec.specs.Extension.{Path}
use Rattle.olr_commands.specs.Recordable.{is_name}
use Rattle.olr_commands.specs.State.{Fault, Syntax, Range, Change, On_map, Add_path, Set_path, Drop_path}
use Rattle.olr_commands.specs.State.{Set_margin, Command, Make, Show, Show_node, Show_line, Depends, Report, Dump}
use Rattle.olr_commands.specs.State.{Compact, Explain, Begin, Preview, Commit, Abort, Ambiguous, Show_margin}
use Rattle.olr_input.specs.RecordWords.{word_in, words}
use Rattle.olr_input.specs.declared.record.Word.{Word}
use Rattle.olr_input.specs.declared.record.Word.TheVariants as word

-- the fields of a record, or one field, by their bytes
abbrev pub Field : Type 0
Field = List ℕ

pub data ReadFault : Type 0 where
  Bad_form Out_of_range : ReadFault

abbrev pub Read : Type 0 → Type 0
Read A = Result A ReadFault

-- of two faults, the one that takes precedence
abbrev pub worse : ReadFault → ReadFault → ReadFault
worse Bad_form f = Bad_form
worse Out_of_range f = f

infixl 60 ◌⊛◌
abbrev pub ◌⊛◌ : {A B : Type 0} → Read (A → B) → Read A → Read B
◌⊛◌ (Ok g) (Ok a) = Ok (g a)
◌⊛◌ (Ok g) (Err f) = Err f
◌⊛◌ (Err f) (Ok a) = Err f
◌⊛◌ (Err f) (Err h) = Err (worse f h)

abbrev pub value_or_fault : {A : Type 0} → Bool → A → Read A
value_or_fault b a = if b then Ok a else Err Out_of_range

-- ---- fields

-- one or more digits, with a value from low to high
abbrev pub digits : ℕ → ℕ → Field → Read ℕ
digits low high f =
    if are_digits f then value_or_fault (nat_le low (digits_value f) && nat_le (digits_value f) high) (digits_value f)
    else Err Bad_form

-- the greatest number of 32 bits
abbrev pub max32 : ℕ
max32 = 4294967295

abbrev pub number : Field → Read ℕ
number f = digits 1 max32 f

abbrev pub amount : Field → Read ℕ
amount f = digits 0 max32 f

abbrev pub class : Field → Read ℕ
class f = digits 0 7 f

abbrev pub coordinate : (ℤ → Bool) → Option ℤ → Read ℤ
coordinate test None = Err Bad_form
coordinate test (Some z) = value_or_fault (test z) z

abbrev pub longitude : Field → Read ℤ
longitude f = coordinate is_longitude (degrees f)

abbrev pub latitude : Field → Read ℤ
latitude f = coordinate is_latitude (degrees f)

abbrev pub place : Field → Field → Read Coord
place lon lat = Ok (λ x y. record { lon = x; lat = y }) ⊛ longitude lon ⊛ latitude lat

abbrev pub name : Field → Read (List ℕ)
name f = if is_name f then Ok f else Err Bad_form

-- the items of fields, one of each
abbrev pub items : {A : Type 0} → (Field → Read A) → List Field → Read (List A)
items one [] = Ok []
items one (f ∷ fs) = Ok (λ x xs. x ∷ xs) ⊛ one f ⊛ items one fs

abbrev pub numbers : List Field → Read (List ℕ)
numbers fs = items number fs

-- a shape point: a distance and a coordinate
abbrev pub point : Field → Field → Field → Read ShapePoint
point at lon lat = Ok (λ x p. record { at = x; place = p }) ⊛ digits 1 999999 at ⊛ place lon lat

-- shape points, three fields each
abbrev pub shape : List Field → Read (List ShapePoint)
shape [] = Ok []
shape (at ∷ []) = Err Bad_form
shape (at ∷ lon ∷ []) = Err Bad_form
shape (at ∷ lon ∷ lat ∷ fs) = Ok (λ p ps. p ∷ ps) ⊛ point at lon lat ⊛ shape fs

-- ---- forms

abbrev pub edit : Read Edit → Read Command
edit e = Ok (λ x. Make (On_map x)) ⊛ e

-- a form of one field, and a form of none
abbrev pub one : {A B : Type 0} → (A → B) → (Field → Read A) → List Field → Read B
one g read (f ∷ []) = Ok g ⊛ read f
one g read _ = Err Bad_form

abbrev pub none : Command → List Field → Read Command
none c [] = Ok c
none c _ = Err Bad_form

-- a node and its coordinate
abbrev pub node_fields : List Field → Read (ℕ × Coord)
node_fields (node ∷ lon ∷ lat ∷ []) = Ok (λ x p. (x, p)) ⊛ number node ⊛ place lon lat
node_fields _ = Err Bad_form

abbrev pub node_record : (ℕ → Coord → Edit) → List Field → Read Edit
node_record g fs = Ok (λ p. g p.0 p.1) ⊛ node_fields fs

abbrev pub line_between : ℕ → ℕ → ℕ → ℕ → ℕ → List ShapePoint → Line
line_between from to frc fow len shape = record { from = from; to = to; frc = frc; fow = fow; len = len; shape = shape }

-- the attributes of a line, without its ends
abbrev pub attributes : Field → Field → Field → List Field → Read (ℕ × ℕ × ℕ × List ShapePoint)
attributes frc fow len fs = Ok (λ a b c d. (a, b, c, d)) ⊛ class frc ⊛ class fow ⊛ digits 1 1000000 len ⊛ shape fs

abbrev pub whole_line : Field → Field → Read (ℕ × ℕ × ℕ × List ShapePoint) → Read Line
whole_line from to rest = Ok (λ a b c. line_between a b c.0 c.1 c.2 c.3) ⊛ number from ⊛ number to ⊛ rest

abbrev pub line_record : List Field → Read Edit
line_record (x ∷ from ∷ to ∷ frc ∷ fow ∷ len ∷ fs) =
    Ok (λ x l. Add_line x l) ⊛ number x ⊛ whole_line from to (attributes frc fow len fs)
line_record _ = Err Bad_form

abbrev pub set_line_record : List Field → Read Edit
set_line_record (x ∷ frc ∷ fow ∷ len ∷ fs) = Ok (λ x c. Set_line x c.0 c.1 c.2 c.3) ⊛ number x ⊛ attributes frc fow len
    fs
set_line_record _ = Err Bad_form

-- a name, two offsets and the lines
abbrev pub path_fields : List Field → Read (List ℕ × Path)
path_fields (n ∷ pos ∷ neg ∷ fs) =
    Ok (λ n p q ls. (n, record { lines = ls; pos = p; neg = q })) ⊛ name n ⊛ amount pos ⊛ amount neg ⊛ numbers fs
path_fields _ = Err Bad_form

abbrev pub path_record : (List ℕ → Path → Change) → List Field → Read Command
path_record g fs = Ok (λ p. Make (g p.0 p.1)) ⊛ path_fields fs

-- one or more nodes, 10,000 at most
abbrev pub depends_record : List Field → Read Command
depends_record [] = Err Bad_form
depends_record fs =
    Ok (λ n nodes. Depends nodes) ⊛ value_or_fault (nat_le (length fs) 10000) (length fs) ⊛ numbers fs

-- a name, or none
abbrev pub ambiguous_record : List Field → Read Command
ambiguous_record [] = Ok (Ambiguous None)
ambiguous_record fs = one (λ n. Ambiguous (Some n)) name fs

-- thousandths, and classes
abbrev pub margin_record : List Field → Read Command
margin_record (routes ∷ classes ∷ []) =
    Ok (λ r c. Make (Set_margin (record { routes = r; classes = c }))) ⊛ digits 0 1000 routes ⊛ class classes
margin_record _ = Err Bad_form

-- by its word, how the fields after it are read
abbrev pub read_as : Word → List Field → Read Command
read_as word.Line fs = edit (line_record fs)
read_as word.Node fs = edit (node_record Add_node fs)
read_as word.SetLine fs = edit (set_line_record fs)
read_as word.Move fs = edit (node_record Move_node fs)
read_as word.DropLine fs = edit (one Drop_line number fs)
read_as word.DropNode fs = edit (one Drop_node number fs)
read_as word.Path fs = path_record Add_path fs
read_as word.Explain fs = one Explain (λ f. Ok f) fs
read_as word.Begin fs = none Begin fs
read_as word.Abort fs = none Abort fs
read_as word.SetPath fs = path_record Set_path fs
read_as word.Commit fs = one Commit amount fs
read_as word.DropPath fs = one (λ n. Make (Drop_path n)) name fs
read_as word.Show fs = one Show name fs
read_as word.ShowNode fs = one Show_node number fs
read_as word.ShowLine fs = one Show_line number fs
read_as word.Depends fs = depends_record fs
read_as word.Report fs = none Report fs
read_as word.Dump fs = none Dump fs
read_as word.Compact fs = none Compact fs
read_as word.Preview fs = none Preview fs
read_as word.Ambiguous fs = ambiguous_record fs
read_as word.SetMargin fs = margin_record fs
read_as word.ShowMargin fs = none Show_margin fs
read_as word.Unknown fs = Err Bad_form

abbrev pub read : List Field → Read Command
read [] = Err Bad_form
read (f ∷ fs) = read_as (word_in words f) fs

abbrev pub read_fault : ReadFault → Fault
read_fault Bad_form = Syntax
read_fault Out_of_range = Range

-- ---- memory

-- a command that holds a name, a list of nodes, a non-empty text or a shape point
abbrev pub HoldsList : Command → Type 0
HoldsList (Make (On_map (Add_line x l))) = 0 < length l.shape
HoldsList (Make (On_map (Set_line x frc fow len shape))) = 0 < length shape
HoldsList (Make (On_map e)) = ⊥
HoldsList (Make (Set_margin g)) = ⊥
HoldsList (Make change) = ⊤
HoldsList (Show name) = ⊤
HoldsList (Depends nodes) = ⊤
HoldsList (Ambiguous (Some name)) = ⊤
HoldsList (Explain text) = 0 < length text
HoldsList c = ⊥

-- reading a record takes memory only if it decodes to such a command
abbrev pub TakesMemory : List Field → Type 0
TakesMemory fields = IsOkAnd (read fields) HoldsList
