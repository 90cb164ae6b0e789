-- The changes and contents that records can spell.
--     has_record x      the numbers, coordinates and names of the change are such that a record spells it
--     IsRecorded c      each change that the content is written as has a record
--     StaysRecorded s      and so has each change that the content after its batch is written as
--     Recorded c      a command that is a change has a record
use Rattle.std.specs.Prelude.{ℕ, Bool, ◌&&◌, List, nat_le, IsTrue, IfSome, ⊤}
use Rattle.std.specs.List.{list_all, AllByRecursion}
use Rattle.olr_spec.specs.Coordinates.{Coord, is_coord}
use Rattle.olr_spec.specs.Map.{ShapePoint, Add_node, Move_node, Drop_node, Add_line, Set_line, Drop_line}
use Rattle.olr_spec.specs.Extension.{Path}
use Rattle.olr_spec.specs.Margins.{is_margin}
use Rattle.olr_commands.specs.Recordable.{is_name, is_recordable_coord}
use Rattle.olr_commands.specs.State.{Content, Change, On_map, Add_path, Set_path, Drop_path, Set_margin, after, Command, Make, State}
use Rattle.olr_commands.specs.Dump.{dump_changes}
use Rattle.olr_records.specs.Records.{max32}

abbrev pub is_number : ℕ → Bool
is_number n = nat_le 1 n && nat_le n max32

abbrev pub is_amount : ℕ → Bool
is_amount n = nat_le n max32

-- in range, and in whole steps of 10^-7 degree
abbrev pub is_place : Coord → Bool
is_place p = is_coord p && is_recordable_coord p

abbrev pub is_point : ShapePoint → Bool
is_point s = nat_le 1 s.at && nat_le s.at 999999 && is_place s.place

abbrev pub are_attributes : ℕ → ℕ → ℕ → List ShapePoint → Bool
are_attributes frc fow len shape =
    nat_le frc 7 && nat_le fow 7 && nat_le 1 len && nat_le len 1000000 && list_all is_point shape

abbrev pub is_named_path : List ℕ → Path → Bool
is_named_path name p = is_name name && is_amount p.pos && is_amount p.neg && list_all is_number p.lines

abbrev pub has_record : Change → Bool
has_record (On_map (Add_node v p)) = is_number v && is_place p
has_record (On_map (Move_node v p)) = is_number v && is_place p
has_record (On_map (Drop_node v)) = is_number v
has_record (On_map (Add_line x l)) =
    is_number x && is_number l.from && is_number l.to && are_attributes l.frc l.fow l.len l.shape
has_record (On_map (Set_line x frc fow len shape)) = is_number x && are_attributes frc fow len shape
has_record (On_map (Drop_line x)) = is_number x
has_record (Add_path name p) = is_named_path name p
has_record (Set_path name p) = is_named_path name p
has_record (Drop_path name) = is_name name
has_record (Set_margin g) = is_margin g

abbrev pub HaveRecords : List Change → Type 0
HaveRecords xs = AllByRecursion (λ x. IsTrue (has_record x)) xs

abbrev pub Recorded : Command → Type 0
Recorded (Make x) = IsTrue (has_record x)
Recorded c = ⊤

abbrev pub IsRecorded : Content → Type 0
IsRecorded c = HaveRecords (dump_changes c)

abbrev pub StaysRecorded : State → Type 0
StaysRecorded s = IsRecorded s.content × IfSome s.batch (λ xs. IsRecorded (after s.content xs))
