-- The records of an input, one for each line of it that isn't empty.
--     lines_of bytes      the lines that aren't empty
--     is_rejected line      it ends with an open quote, or has more than 16 MB
--     line_record line      its record: the one that csv reads from it alone, or one that no command has, if it is rejected
--     line_records bytes      the records of an input
--     EachIs Is lines records      there is one record for each line, and this is known of it
--     left_after first line known rs      these records are left after the first bytes of a line
--     lines_left remaining s rs      these records are left of a source
use Rattle.std.specs.Prelude.{◌≡◌, ◌^◌, ℕ, Bool, true, false, ◌||◌, nat_lt, if◌then◌else◌, List, [], ◌∷◌, ◌++◌, length, map}
use Rattle.std.specs.Prelude.{codes, Option, Some, None, ⊤}
use Rattle.std.specs.Bool.{MatchBool}
use Rattle.std.specs.List.{list_any}
use Rattle.std.specs.Option.{option_map_or}
use Rattle.csv.specs.Machine.{Read, next_record}
use Rattle.csv.specs.Reading.{default_config, strip_bom}
use Rattle.csv.specs.declared.parser.State.TheVariants as st
use Rattle.olr_input.specs.Blocks.{input_left}
use Rattle.olr_input.specs.Lines.{is_line_end}
use Rattle.olr_input.specs.Machine.{is_quoted, state_after}
use Rattle.olr_input.specs.Sessions.{HasNone, Known, TakesOne}
use Rattle.olr_input.specs.declared.line_records.LineRecords.{LineRecords}

-- ---- lines

abbrev pub HasNoEnd : List ℕ → Type 0
HasNoEnd bytes = list_any is_line_end bytes ≡ false

abbrev pub if_any : List ℕ → List (List ℕ)
if_any [] = []
if_any (b ∷ line) = (b ∷ line) ∷ []

-- after the first bytes of a line
unfoldable pub lines_from : List ℕ → List ℕ → List (List ℕ)
lines_from line [] = if_any line
lines_from line (b ∷ bytes) =
    if is_line_end b then if_any line ++ lines_from [] bytes else lines_from (line ++ b ∷ []) bytes

abbrev pub lines_of : List ℕ → List (List ℕ)
lines_of bytes = lines_from [] bytes

abbrev pub EachIs : (List ℕ → List (List ℕ) → Type 0) → List (List ℕ) → List (List (List ℕ)) → Type 0
EachIs Is [] [] = ⊤
EachIs Is [] (r ∷ rs) = ⊥
EachIs Is (line ∷ lines) [] = ⊥
EachIs Is (line ∷ lines) (r ∷ rs) = Is line r × EachIs Is lines rs

-- ---- records

-- the most bytes of a line
abbrev pub most_in_line : ℕ
most_in_line = 2 ^ 24

abbrev pub is_rejected : List ℕ → Bool
is_rejected line = nat_lt most_in_line (length line) || is_quoted (state_after st.StartRecord line)

-- no command has it
abbrev pub formless : List (List ℕ)
formless = codes "!" ∷ []

unfoldable pub line_record : List ℕ → List (List ℕ)
line_record line =
    if is_rejected line then formless
    else option_map_or (λ (p : Read). p.0) (next_record default_config st.StartRecord [] [] line) []

abbrev pub line_records : List ℕ → List (List (List ℕ))
line_records bytes = map line_record (lines_of (strip_bom bytes))

-- ---- a source

-- the first line comes after a byte order mark, if there is one
abbrev pub unmarked : Bool → List ℕ → List ℕ
unmarked first bytes = if first then strip_bom bytes else bytes

abbrev pub left_after : Bool → List ℕ → Known → List (List (List ℕ)) → Type 0
left_after first line None rs = ⊥
left_after first line (Some bytes) rs = rs ≡ map line_record (lines_of (unmarked first (line ++ bytes)))

-- none after a fault
abbrev pub lines_left : {R : Type 0} → (R → Known) → LineRecords R → List (List (List ℕ)) → Type 0
lines_left remaining s rs =
    MatchBool s.failed (rs ≡ []) (left_after s.is_first [] (input_left remaining s.source) rs)

-- after the first bytes of a line that it keeps
abbrev pub line_left : {R : Type 0} → (R → Known) → LineRecords R → List (List (List ℕ)) → Type 0
line_left remaining s rs = left_after s.is_first s.line.items (input_left remaining s.source) rs

-- it goes on; or it takes a record, or there is none
abbrev pub Steps : {R : Type 0} → (R → Known) → (old new : LineRecords R) → Option Bool → List (List ℕ) → Type 0
Steps remaining old new None fields =
    HasNoEnd new.line.items × ((rs : List (List (List ℕ))) → line_left remaining old rs → line_left remaining new rs)
Steps remaining old new (Some true) fields =
    TakesOne (line_left remaining old) (left_after new.is_first [] (input_left remaining new.source)) fields
Steps remaining old new (Some false) fields = HasNone (line_left remaining old)
