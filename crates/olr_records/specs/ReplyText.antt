-- The bytes of replies and faults. Each line ends with a line feed, and its fields are separated by commas.
--     reply_text r, fault_text f, outcome_text o
--     StandsBefore text end most old start new      a text was put before an index of a line
use Rattle.std.specs.Prelude.{◌≡◌, ◌≤◌, ◌+◌, ℕ, List, [], ◌∷◌, ◌++◌, drop, map, length, Option, Some, None, Result, Ok, Err, codes, decimal}
use Rattle.std.specs.List.{concat}
use Rattle.std.specs.Fmt.{signed_decimal}
use Rattle.olr_spec.specs.Map.{Node_exists, No_node, Line_exists, No_line, Node_in_use, Bad_shape}
use Rattle.olr_spec.specs.Reference.{Attrs, First, Middle, Last, Reference}
use Rattle.olr_spec.specs.Encoding.{Refusal, Unknown_line, Broken, Offset_too_long, No_next_point}
use Rattle.olr_spec.specs.Bytes.{Length, Flags, Reserved}
use Rattle.olr_spec.specs.Bytes as b
use Rattle.olr_commands.specs.State.{TextFault, Not_base64, Not_v3, Fault, Syntax, Range, Map_fault, Path_exists}
use Rattle.olr_commands.specs.State.{No_path, Bad_path, Not_a_reference, Memory, Batch_open, No_batch, Count_differs}
use Rattle.olr_commands.specs.State.{Batch_full, Not_a_record}
use Rattle.olr_commands.specs.RecordText.{fields_line}
use Rattle.olr_commands.specs.Reply.{Entry, Reply, Paths, Fields, Held, Dumped, Records, Names, Obstacles, Outcome}
use Rattle.olr_commands.specs.Ambiguities.{NamedObstacle}
use Rattle.olr_spec.specs.Ambiguity.{Obstacle, Same_sector, Other_bearing, Other_node}

-- a text of at most `most` bytes, from index `start` on, was put before index `end` of the line `old`, which became `new`
pub record StandsBefore (text : List ℕ) (end most : ℕ) (old : List ℕ) (start : ℕ) (new : List ℕ) : Type 0 where
  pub few : end ≤ start + most
  pub before : start ≤ end
  pub written : drop start new ≡ text ++ drop end old
  pub size : length new ≡ length old

-- ---- entries

abbrev pub refusal_fields : Refusal → List (List ℕ)
refusal_fields (Unknown_line x) = codes "1" ∷ decimal x ∷ []
refusal_fields (Broken k) = codes "2" ∷ decimal k ∷ []
refusal_fields Offset_too_long = codes "3" ∷ []
refusal_fields (No_next_point k) = codes "4" ∷ decimal k ∷ []

abbrev pub published_fields : Result (List ℕ) Refusal → List (List ℕ)
published_fields (Ok text) = codes "text" ∷ text ∷ []
published_fields (Err refusal) = codes "refused" ∷ refusal_fields refusal

abbrev pub entry_line : Entry → List ℕ
entry_line e = fields_line (e.name ∷ published_fields e.published)

-- ---- fields of a reference

abbrev pub attr_fields : Attrs → List (List ℕ)
attr_fields a = decimal a.frc ∷ decimal a.fow ∷ decimal a.lfrc ∷ decimal a.bearing ∷ decimal a.dnp ∷ []

abbrev pub first_line : First → List ℕ
first_line p = fields_line (codes "first" ∷ signed_decimal p.lon ∷ signed_decimal p.lat ∷ attr_fields p.attrs)

abbrev pub middle_line : Middle → List ℕ
middle_line p = fields_line (codes "middle" ∷ signed_decimal p.dlon ∷ signed_decimal p.dlat ∷ attr_fields p.attrs)

abbrev pub last_line : Last → List ℕ
last_line p =
    fields_line (codes "last" ∷ signed_decimal p.dlon ∷ signed_decimal p.dlat ∷ decimal p.frc ∷ decimal p.fow ∷ decimal
    p.bearing ∷ [])

-- a line with the offset byte, if there is an offset
abbrev pub offset_lines : List ℕ → Option ℕ → List (List ℕ)
offset_lines word None = []
offset_lines word (Some n) = fields_line (word ∷ decimal n ∷ []) ∷ []

abbrev pub reference_lines : Reference → List (List ℕ)
reference_lines r =
    first_line r.first ∷ (map middle_line r.middle ++ last_line r.last
    ∷ (offset_lines (codes "positive") r.pos ++ offset_lines (codes "negative") r.neg))

-- ---- the ambiguities of a string

abbrev pub obstacle_fields : Obstacle → List (List ℕ)
obstacle_fields (Same_sector y) = codes "sector" ∷ decimal y ∷ []
obstacle_fields (Other_bearing y) = codes "bearing" ∷ decimal y ∷ []
obstacle_fields (Other_node v) = codes "node" ∷ decimal v ∷ []

abbrev pub obstacle_line : NamedObstacle → List ℕ
obstacle_line e = fields_line (e.name ∷ decimal e.lrp ∷ obstacle_fields e.obstacle)

-- ---- replies

abbrev pub name_line : List ℕ → List ℕ
name_line name = fields_line (name ∷ [])

abbrev pub count_line : ℕ → List ℕ
count_line n = fields_line (codes "ok" ∷ decimal n ∷ [])

-- the number of lines, and the lines
abbrev pub accepted_text : List (List ℕ) → List ℕ
accepted_text lines = count_line (length lines) ++ concat lines

abbrev pub reply_text : Reply → List ℕ
reply_text (Paths es) = accepted_text (map entry_line es)
reply_text (Fields r) = accepted_text (reference_lines r)
reply_text (Dumped n text) = count_line n ++ text
reply_text (Records n text) = count_line n ++ text
reply_text (Names names) = accepted_text (map name_line names)
reply_text (Obstacles found) = accepted_text (map obstacle_line found)
reply_text (Held n) = fields_line (codes "held" ∷ decimal n ∷ [])

-- ---- faults

abbrev pub fault_line : ℕ → List ℕ → List (List ℕ) → List ℕ
fault_line n word more = fields_line (codes "fault" ∷ decimal n ∷ word ∷ more)

abbrev pub cause : TextFault → ℕ
cause (Not_v3 Length) = 1
cause (Not_v3 b.Status) = 2
cause (Not_v3 Flags) = 3
cause (Not_v3 Reserved) = 4
cause Not_base64 = 6

abbrev pub fault_text : Fault → List ℕ
fault_text Syntax = fault_line 1 (codes "Syntax") []
fault_text Range = fault_line 2 (codes "Range") []
fault_text (Map_fault Node_exists) = fault_line 3 (codes "NodeExists") []
fault_text (Map_fault No_node) = fault_line 4 (codes "NoNode") []
fault_text (Map_fault Line_exists) = fault_line 5 (codes "LineExists") []
fault_text (Map_fault No_line) = fault_line 6 (codes "NoLine") []
fault_text (Map_fault Node_in_use) = fault_line 7 (codes "NodeInUse") []
fault_text (Map_fault Bad_shape) = fault_line 8 (codes "BadShape") []
fault_text Path_exists = fault_line 9 (codes "PathExists") []
fault_text No_path = fault_line 10 (codes "NoPath") []
fault_text Bad_path = fault_line 11 (codes "BadPath") []
fault_text (Not_a_reference fault) = fault_line 12 (codes "NotAReference") (decimal (cause fault) ∷ [])
fault_text Memory = fault_line 13 (codes "Memory") []
fault_text Batch_open = fault_line 14 (codes "BatchOpen") []
fault_text No_batch = fault_line 15 (codes "NoBatch") []
fault_text Count_differs = fault_line 16 (codes "CountDiffers") []
fault_text Batch_full = fault_line 17 (codes "BatchFull") []
fault_text Not_a_record = fault_line 18 (codes "NotARecord") []

abbrev pub outcome_text : Outcome → List ℕ
outcome_text (Ok reply) = reply_text reply
outcome_text (Err fault) = fault_text fault
