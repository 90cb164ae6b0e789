-- The values of the worked rows of commands, records and runs.
use Rattle.std.specs.Prelude.{◌≡◌, ℕ, pos, neg_ℤ, List, [], ◌∷◌, ◌++◌, ◌==◌, if◌then◌else◌, flat_map, map, codes, Option}
use Rattle.std.specs.Prelude.{None, Some, false}
use Rattle.std.specs.FinMap.{insert, empty}
use Rattle.olr_spec.specs.Coordinates.{coord}
use Rattle.olr_spec.specs.Map.{empty_map, no_coord, Add_node, Add_line}
use Rattle.olr_commands.specs.State.{no_content, after, State, Change, Command, Fault, On_map, Add_path}
use Rattle.olr_records.specs.Records.{line_between, Read, read}
use Rattle.olr_records.specs.ReplyText.{fault_text}
use Rattle.olr_laws.specs.Rows.{fifty, path_of}
use Rattle.olr_run.specs.Options.{Options}

-- a state with an open batch that holds these changes
abbrev pub in_batch : List Change → State
in_batch xs = record { content = no_content; batch = Some xs }

-- a path of one line, with the name a
abbrev pub path_a : Change
path_a = Add_path (codes "a") (path_of (10 ∷ []) 0 0)

-- the state in which this path is registered, on the empty map
abbrev pub with_a : Option (List Change) → State
with_a batch = record { content = after no_content (path_a ∷ []); batch = batch }

-- the state with a margin of 50 thousandths and one class, and without paths
abbrev pub with_fifty : State
with_fifty = record { content = record no_content { margin = fifty }; batch = None }

-- node 1 is on the map, and there are no paths
abbrev pub with_node : State
with_node =
    record { content = record no_content { map = record empty_map { nodes = insert empty 1 no_coord } }; batch = None }

-- ---- records

-- the fields of a text, which are separated by commas
abbrev pub before_fields : ℕ → List (List ℕ) → List (List ℕ)
before_fields b [] = (b ∷ []) ∷ []
before_fields b (field ∷ fields) = (b ∷ field) ∷ fields

abbrev pub fields_of : List ℕ → List (List ℕ)
fields_of [] = [] ∷ []
fields_of (b ∷ bytes) = if b == 44 then [] ∷ fields_of bytes else before_fields b (fields_of bytes)

-- the command of a record without quotes
abbrev pub read_text : List ℕ → Read Command
read_text text = read (fields_of text)

-- a text of these lines
abbrev pub text_of_lines : List (List ℕ) → List ℕ
text_of_lines ls = flat_map (λ l. l ++ 10 ∷ []) ls

-- a fault and the line of its text, row by row
abbrev pub AreFaultTexts : List (Fault × List ℕ) → Type 0
AreFaultTexts rows =
    map (λ (r : Fault × List ℕ). fault_text r.0) rows ≡ map (λ (r : Fault × List ℕ). text_of_lines (r.1 ∷ [])) rows

-- two nodes, a line with a shape point, and a path
abbrev pub changes1 : List Change
changes1 =
    On_map (Add_node 1 (coord (pos 2007639654400) (neg_ℤ (pos 32768))))
    ∷ On_map (Add_node 2 (coord (pos 0) (neg_ℤ (pos 58982400000000))))
    ∷ On_map (Add_line 10 (line_between 1 2 3 2 5610
    (record { at = 200; place = coord (pos 2007698636800) (pos 16255673958400) } ∷ [])))
    ∷ Add_path (codes "a") (path_of (10 ∷ []) 1500 0) ∷ []

-- ---- runs

-- without arguments
abbrev pub no_options : Options
no_options = record { file = None; stop = false; lines = false; log = None; new = false; compact_at = None }

-- a run of five records, four of them rejected
abbrev pub input20 : List ℕ
input20 =
    text_of_lines (codes "node,1,0,0" ∷ codes "node,1,0,0" ∷ codes "drop-node,2" ∷ codes "node,3,180,0"
    ∷ codes "node,x,0,0" ∷ [])

abbrev pub output20 : List ℕ
output20 =
    text_of_lines (codes "ok,0" ∷ codes "fault,3,NodeExists" ∷ codes "fault,4,NoNode" ∷ codes "fault,2,Range" ∷ codes
    "fault,1,Syntax" ∷ [])
