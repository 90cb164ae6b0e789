-- Replies, and the outcomes of a command.
--     Entry, Reply      the reply to an accepted command
--     Published c name answer, PublishedText c name text      what is published under a name
--     IsReply s c t reply      the reply to an accepted command that leads from s to t
--     IsOutcome s c outcome t      the command may lead from s to t with this reply, or this fault
use Rattle.std.specs.Prelude.{◌≡◌, ◌==◌, ℕ, suc, Bool, true, false, not, ◌&&◌, ◌||◌, List, [], ◌∷◌, length, Option}
use Rattle.std.specs.Prelude.{Some, None, map, option_and_then, IsSomeAnd, MatchOption, Result, Ok, Err, ◌⊎◌, IsTrue}
use Rattle.std.specs.Result.{result_ok}
use Rattle.std.specs.List.{concat}
use Rattle.base64.specs.Engines.{standard}
use Rattle.base64.specs.GeneralPurpose.{decoded_of}
use Rattle.olr_spec.specs.Map.{Map}
use Rattle.olr_spec.specs.Margins.{Margin}
use Rattle.olr_spec.specs.Extension.{Path}
use Rattle.olr_spec.specs.Reference.{Reference}
use Rattle.olr_spec.specs.Encoding.{Answer, Points, Refused, Refusal, EncodesWith}
use Rattle.olr_spec.specs.Bytes.{HasBytes}
use Rattle.olr_model.specs.Edits.{allocates}
use Rattle.olr_binary.specs.Text.{text_of}
use Rattle.olr_commands.specs.State.{Named, Content, path_named, Fault, Syntax, Range, Bad_path, Not_a_reference}
use Rattle.olr_commands.specs.State.{Memory, Dump, Change, On_map, Drop_path, State, Command, Make, Show, Report}
use Rattle.olr_commands.specs.State.{Explain, Begin, Preview, Commit, Abort, Show_node, Show_line, Show_margin}
use Rattle.olr_commands.specs.State.{Depends, Compact, Ambiguous, Set_margin, step, with_held}
use Rattle.olr_commands.specs.RecordText.{record_line}
use Rattle.olr_commands.specs.Dump.{dump_lines, node_changes, line_changes}
use Rattle.olr_commands.specs.Dependents.{Dependents}
use Rattle.olr_commands.specs.Ambiguities.{NamedObstacle, AskedAmbiguities}

-- a path's string, or the reason why it has none
pub record Entry : Type 0 where
  pub name : List ℕ
  pub published : Result (List ℕ) Refusal

pub data Reply : Type 0 where
  Paths : (entries : List Entry) → Reply
  Fields : (reference : Reference) → Reply
  Held : (count : ℕ) → Reply
  Dumped : (count : ℕ) (text : List ℕ) → Reply
  Records : (count : ℕ) (text : List ℕ) → Reply
  Names : (names : List (List ℕ)) → Reply
  Obstacles : (found : List NamedObstacle) → Reply

abbrev pub published_text : Answer → Result (List ℕ) Refusal
published_text (Points r) = Ok (text_of r)
published_text (Refused refusal) = Err refusal

abbrev pub entry : List ℕ → Answer → Entry
entry name answer = record { name = name; published = published_text answer }

-- ---- what is published

-- the path of that name has this answer on the map, with the margin
abbrev pub HasAnswer : Content → List ℕ → Answer → Type 0
HasAnswer c name A = (P : Path) × (path_named c.paths name ≡ Some P) × EncodesWith c.margin c.map P A

abbrev pub Published : Content → List ℕ → Option Answer → Type 0
Published c name answer =
    MatchOption (path_named c.paths name) (answer ≡ None) (λ P. IsSomeAnd answer (λ A. EncodesWith c.margin c.map P A))

-- its string, if it has one
abbrev pub PublishedText : Content → List ℕ → Option (List ℕ) → Type 0
PublishedText c name text =
    (answer : Option Answer) × Published c name answer
    × (text ≡ option_and_then (λ A. result_ok (published_text A)) answer)

-- ---- replies

-- each path with its answer
abbrev pub AllOf : Margin → Map → List Named → List Entry → Type 0
AllOf g M [] es = es ≡ []
AllOf g M (p ∷ ps) es =
    (A : Answer) × (rest : List Entry) × EncodesWith g M p.path A × AllOf g M ps rest × (es ≡ entry p.name A ∷ rest)

-- the new paths, and those with another answer than before
abbrev pub ChangedOf : Content → Margin → Map → List Named → List Entry → Type 0
ChangedOf before g M [] es = es ≡ []
ChangedOf before g M (p ∷ ps) es =
    (A : Answer) × (rest : List Entry) × EncodesWith g M p.path A × ChangedOf before g M ps rest
    × ((HasAnswer before p.name A × (es ≡ rest)) ⊎ ((¬ HasAnswer before p.name A) × (es ≡ entry p.name A ∷ rest)))

abbrev pub Differences : Content → Content → List Entry → Type 0
Differences before later es = ChangedOf before later.margin later.map later.paths es

abbrev pub Shown : Content → List ℕ → List Entry → Type 0
Shown c name es = (A : Answer) × HasAnswer c name A × (es ≡ entry name A ∷ [])

-- the text is base64 of bytes that encode the reference
abbrev pub Explained : List ℕ → Reference → Type 0
Explained text r = (b : List ℕ) × (decoded_of standard text ≡ Some b) × HasBytes r b

abbrev pub IsPaths : Reply → (List Entry → Type 0) → Type 0
IsPaths (Paths es) P = P es
IsPaths _ P = ⊥

-- the records of these changes
abbrev pub IsRecords : Reply → List Change → Type 0
IsRecords reply xs = reply ≡ Records (length xs) (concat (map record_line xs))

-- to a change, in a batch that holds these changes or outside a batch
abbrev pub IsChangeReply : Option (List Change) → Content → Content → Reply → Type 0
IsChangeReply None before later reply = IsPaths reply (Differences before later)
IsChangeReply (Some xs) before later reply = reply ≡ Held (suc (length xs))

abbrev pub IsReply : State → Command → State → Reply → Type 0
IsReply s (Make x) t reply = IsChangeReply s.batch s.content t.content reply
IsReply s (Show name) t reply = IsPaths reply (Shown s.content name)
IsReply s (Show_node v) t reply = IsRecords reply (node_changes s.content.map v)
IsReply s (Show_line x) t reply = IsRecords reply (line_changes s.content.map x)
IsReply s Show_margin t reply = IsRecords reply (Set_margin s.content.margin ∷ [])
IsReply s (Depends nodes) t (Names names) = Dependents s.content nodes names
IsReply s Report t reply = IsPaths reply (AllOf s.content.margin s.content.map s.content.paths)
IsReply s Dump t reply =
    reply ≡ Dumped (length (dump_lines s.content)) (concat (dump_lines s.content))
IsReply s Compact t reply = reply ≡ Paths []
IsReply s (Ambiguous name) t (Obstacles found) = AskedAmbiguities s.content name found
IsReply s (Explain text) t (Fields r) = Explained text r
IsReply s Begin t reply = reply ≡ Paths []
IsReply s Preview t reply = IsPaths reply (Differences s.content (with_held s.content s.batch))
IsReply s (Commit count) t reply = IsPaths reply (Differences s.content t.content)
IsReply s Abort t reply = reply ≡ Paths []
IsReply _ _ _ _ = ⊥

-- ---- outcomes

-- a fault that takes precedence over out of memory
abbrev pub is_reported_first : Fault → Bool
is_reported_first Bad_path = false
is_reported_first (Not_a_reference fault) = false
is_reported_first Memory = false
is_reported_first Syntax = false
is_reported_first Range = false
is_reported_first _ = true

abbrev pub may_want : Result State Fault → Bool
may_want (Ok t) = true
may_want (Err fault) = not (is_reported_first fault)

-- opening and dropping a batch take no memory, nor does `compact`, nor does a path that is dropped outside of batches. Where there are no
-- paths, a report takes none, nor, outside of batches, an edit for which the map does not allocate. Each other command
-- may be out of memory
abbrev pub takes_memory : Command → Option (List Change) → Bool → Bool
takes_memory (Make (Drop_path name)) None bare = false
takes_memory (Make (On_map e)) None bare = not bare || allocates e
takes_memory Report batch bare = not bare
takes_memory Compact batch bare = false
takes_memory Begin batch bare = false
takes_memory Abort batch bare = false
takes_memory c batch bare = true

-- out of memory is an outcome if the command takes memory and step has no fault that takes precedence
abbrev pub may_lack : State → Command → Bool
may_lack s c = takes_memory c s.batch (length s.content.paths == 0) && may_want (step s c)

pub data IsRefusal (s : State) (c : Command) (fault : Fault) : Type 0 where
  ByState : step s c ≡ Err fault → IsRefusal s c fault
  Lacks : fault ≡ Memory → IsTrue (may_lack s c) → IsRefusal s c fault

abbrev pub Outcome : Type 0
Outcome = Result Reply Fault

-- a rejected command leaves the state unchanged
abbrev pub IsOutcome : State → Command → Outcome → State → Type 0
IsOutcome s c (Ok reply) t = (step s c ≡ Ok t) × IsReply s c t reply
IsOutcome s c (Err fault) t = IsRefusal s c fault × (t ≡ s)

-- out of memory
abbrev pub lacks_memory : Outcome → Bool
lacks_memory (Err Memory) = true
lacks_memory _ = false
