-- A content written as changes that build it from an empty one.
--     dump_changes c      the margin, if there is one, an added node for each node, an added line for each line, both in
--         ascending order, and an added path for each path, in order
--     dump_lines c      the records of these changes
--     node_changes M v, line_changes M x      those of a node;  those of the ends of a line, each once, and of the line
--     Leads c xs d      the changes are accepted one after another and lead from c to d
--     steps s cs      the state after commands, or the first fault
use Rattle.std.specs.Prelude.{◌≡◌, ◌==◌, ℕ, Bool, ◌&&◌, List, [], ◌∷◌, ◌++◌, map, if◌then◌else◌, None, Result, Ok, Err}
use Rattle.std.specs.FinMap.{entries}
use Rattle.olr_spec.specs.Map.{Map, Line, Add_node, Add_line, coord_at, line_at, start, end}
use Rattle.olr_spec.specs.Coordinates.{Coord}
use Rattle.olr_spec.specs.Margins.{Margin}
use Rattle.olr_commands.specs.State.{Named, Content, no_content, Fault, Change, On_map, Add_path, Set_margin, after}
use Rattle.olr_commands.specs.State.{Command, Make, State, start_state, step, IsContent, AllAccepted}
use Rattle.olr_commands.specs.RecordText.{record_line}

abbrev pub node_change : ℕ × Coord → Change
node_change e = On_map (Add_node e.0 e.1)

abbrev pub line_change : ℕ × Line → Change
line_change e = On_map (Add_line e.0 e.1)

abbrev pub path_change : Named → Change
path_change p = Add_path p.name p.path

abbrev pub adds_nothing : Margin → Bool
adds_nothing g = (g.routes == 0) && (g.classes == 0)

abbrev pub margin_changes : Margin → List Change
margin_changes g = if adds_nothing g then [] else Set_margin g ∷ []

-- both ends of a line are added before the line
abbrev pub content_changes : Content → List Change
content_changes c =
    map node_change (entries c.map.nodes) ++ (map line_change (entries c.map.lines) ++ map path_change c.paths)

abbrev pub dump_changes : Content → List Change
dump_changes c = margin_changes c.margin ++ content_changes c

abbrev pub dump_lines : Content → List (List ℕ)
dump_lines c = map record_line (dump_changes c)

abbrev pub node_changes : Map → ℕ → List Change
node_changes M v = node_change (v, coord_at M v) ∷ []

-- one node if both are the same
abbrev pub end_changes : Map → ℕ → ℕ → List Change
end_changes M v w = node_changes M v ++ (if v == w then [] else node_changes M w)

-- the node where it begins first
abbrev pub line_changes : Map → ℕ → List Change
line_changes M x = end_changes M (start M x) (end M x) ++ line_change (x, line_at M x) ∷ []

abbrev pub Leads : Content → List Change → Content → Type 0
Leads c xs d = AllAccepted c xs × (after c xs ≡ d)

abbrev pub steps_then : Result State Fault → (State → Result State Fault) → Result State Fault
steps_then (Ok s) f = f s
steps_then (Err fault) f = Err fault

abbrev pub steps : State → List Command → Result State Fault
steps s [] = Ok s
steps s (c ∷ cs) = steps_then (step s c) (λ t. steps t cs)

-- ---- the laws

-- from the empty content, all changes are accepted and lead to this content
abbrev pub DumpsLead : Type 0
DumpsLead = (c : Content) → IsContent c → Leads no_content (dump_changes c) c

-- so are the commands, and no batch is open after them
abbrev pub DumpsRun : Type 0
DumpsRun =
    (c : Content) → IsContent c →
    steps start_state (map (λ x. Make x) (dump_changes c)) ≡ Ok (record { content = c; batch = None })

-- the content that they lead to is written as the same changes
abbrev pub DumpsAgain : Type 0
DumpsAgain = (c : Content) → IsContent c → dump_changes (after no_content (dump_changes c)) ≡ dump_changes c
