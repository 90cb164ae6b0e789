-- Whole runs of commands, and the claims about them.
--     Run Step s xs os t      the first of xs have these outcomes, one after another, and lead from s to t; Step is
--         the relation of one step
--     Whole Step s xs os t      the same for all of xs.
--     History s cs os t      a whole run of commands
--     all_changes_made asked s xs os      the changes that the accepted commands apply, where each of xs asks for a
--         command or for none
--     IsPublished, IsJoined, IsNamed, IsRefused, IsDumped      the five claims.
--     Headline      all of them, of one run
use Rattle.std.specs.Prelude.{◌≡◌, ℕ, Bool, true, false, List, [], ◌∷◌, ◌++◌, map, length, Option, Some, None, IfSome}
use Rattle.std.specs.Prelude.{Ok, Err, IsTrue, ◌↔◌}
use Rattle.std.specs.Result.{result_unwrap_or}
use Rattle.std.specs.List.{list_any, AllByRecursion, concat}
use Rattle.olr_spec.specs.Map.{Map}
use Rattle.olr_spec.specs.Margins.{Margin, IsSoundFor}
use Rattle.olr_spec.specs.Extension.{Path}
use Rattle.olr_spec.specs.Reference.{Reference}
use Rattle.olr_spec.specs.Encoding.{Answer, Points, EncodesWith}
use Rattle.olr_spec.specs.Joins.{JoinedWith}
use Rattle.olr_commands.specs.State.{Content, path_named, same_name, Fault, Change, after, IsContent, State}
use Rattle.olr_commands.specs.State.{start_state, Command, Make, Commit, HasCoords, step, changes_made, IsState}
use Rattle.olr_commands.specs.State.{is_recordable}
use Rattle.olr_commands.specs.Dump.{dump_changes, dump_lines, steps}
use Rattle.olr_commands.specs.Reply.{Dumped}
use Rattle.olr_commands.specs.Reply.{Entry, entry, Paths, HasAnswer, Published, Differences, Outcome, IsOutcome}

-- ---- runs

abbrev pub Run : {A : Type 0} → (State → A → Outcome → State → Type 0) → State → List A → List Outcome → State → Type 0
Run Step s xs [] t = s ≡ t
Run Step s [] (o ∷ os) t = ⊥
Run Step s (x ∷ xs) (o ∷ os) t = (mid : State) × Step s x o mid × Run Step mid xs os t

abbrev pub Whole : {A : Type 0} → (State → A → Outcome → State → Type 0) → State → List A → List Outcome → State →
    Type 0
Whole Step s xs os t = (length os ≡ length xs) × Run Step s xs os t

abbrev pub History : State → List Command → List Outcome → State → Type 0
History s cs os t = Whole IsOutcome s cs os t

-- ---- the changes that a run applies

abbrev pub next_state : State → Option Command → State
next_state s None = s
next_state s (Some c) = result_unwrap_or (step s c) s

abbrev pub brought_by : State → Option Command → List Change
brought_by s None = []
brought_by s (Some c) = changes_made s c

abbrev pub all_changes_made : {A : Type 0} → (A → Option Command) → State → List A → List Outcome → List Change
all_changes_made asked s [] os = []
all_changes_made asked s (x ∷ xs) [] = []
all_changes_made asked s (x ∷ xs) (Ok reply ∷ os) =
    brought_by s (asked x) ++ all_changes_made asked (next_state s (asked x)) xs os
all_changes_made asked s (x ∷ xs) (Err fault ∷ os) = all_changes_made asked s xs os

-- ---- published answers

-- the path has exactly one answer
pub record OneOf (g : Margin) (M : Map) (P : Path) : Type 0 where
  pub answer : Answer
  pub encodes : EncodesWith g M P answer
  pub only : (B : Answer) → EncodesWith g M P B → B ≡ answer

-- the later content is the earlier one after these changes; each of its paths has exactly one answer on its map with its
-- margin, and this answer is published
pub record IsPublished (before : Content) (changes : List Change) (later : Content) : Type 0 where
  pub content : later ≡ after before changes
  pub answers : (name : List ℕ) (P : Path) → path_named later.paths name ≡ Some P → (one : OneOf later.margin later.map P)
      × ((answer : Option Answer) → Published later name answer → answer ≡ Some one.answer)

-- ---- routes that join

-- each reference has at least two LRPs, and the unique shortest paths between them join to the path's extended path
abbrev pub IsJoined : Content → Type 0
IsJoined c =
    (name : List ℕ) (r : Reference) → HasAnswer c name (Points r) → (P : Path) × (path_named c.paths name ≡ Some P)
    × JoinedWith c.margin c.map P r

-- ---- replies that name what changed

abbrev pub names : List Entry → List ℕ → Type 0
names es name = IsTrue (list_any (λ e. same_name e.name name) es)

-- there is an entry for each path of the later content whose answer is not its earlier one, and for no other path; each
-- entry has the new answer
abbrev pub NamesChanged : Content → Content → List Entry → Type 0
NamesChanged before later es =
    ((name : List ℕ) → names es name ↔ ((A : Answer) × HasAnswer later name A × ¬ HasAnswer before name A))
    × AllByRecursion (λ e. (A : Answer) × HasAnswer later e.name A × (e ≡ entry e.name A)) es

-- the reply names paths: to a change outside a batch, and to a commit
abbrev pub reports : Option (List Change) → Command → Bool
reports None (Make x) = true
reports (Some xs) (Commit count) = true
reports _ _ = false

abbrev pub IsNamed : State → Command → Outcome → State → Type 0
IsNamed s c o t = IsTrue (reports s.batch c) → (es : List Entry) → o ≡ Ok (Paths es) →
    NamesChanged s.content t.content es

-- ---- rejected commands change nothing

abbrev pub IsRefused : State → Outcome → State → Type 0
IsRefused s o t = (fault : Fault) → o ≡ Err fault → t ≡ s

-- ---- dumps

-- the text has the records of changes that, carried out as commands one after another, lead from the start to this state
pub record IsDump (s : State) (count : ℕ) (text : List ℕ) : Type 0 where
  pub recordable : IsTrue (is_recordable s.content)
  pub lines : count ≡ length (dump_lines s.content)
  pub bytes : text ≡ concat (dump_lines s.content)
  pub builds : steps start_state (map (λ x. Make x) (dump_changes s.content)) ≡ Ok s

abbrev pub IsDumped : State → Outcome → State → Type 0
IsDumped s o t = (count : ℕ) (text : List ℕ) → o ≡ Ok (Dumped count text) → IsDump s count text × (t ≡ s)

-- ---- the five claims, of one run

pub record Headline {A : Type 0} (Step : State → A → Outcome → State → Type 0) (asked : A → Option Command) (s : State)
    (xs : List A) (os : List Outcome) (t : State) : Type 0 where
  pub run : Run Step s xs os t
  pub published : IsPublished s.content (all_changes_made asked s xs os) t.content
  pub joined : IsJoined t.content
  pub named : Run (λ a x o b. Step a x o b × IfSome (asked x) (λ c. IsNamed a c o b)) s xs os t
  pub refused : Run (λ a x o b. Step a x o b × IsRefused a o b) s xs os t
  pub dumped : Run (λ a x o b. Step a x o b × IsDumped a o b) s xs os t

-- ---- the laws behind them

-- a run of commands from the start leaves the state sound, and all five claims are true of it
abbrev pub HeadlineOfHistories : Type 0
HeadlineOfHistories =
    (cs : List Command) (os : List Outcome) (t : State) → AllByRecursion HasCoords cs → History start_state cs os t
    → IsState t × Headline IsOutcome (λ c. Some c) start_state cs os t

abbrev pub RoutesOfReferences : Type 0
RoutesOfReferences = (c : Content) → IsSoundFor c.margin c.map → IsJoined c

abbrev pub RepliesName : Type 0
RepliesName =
    (before later : Content) (es : List Entry) → IsContent later → Differences before later es →
    NamesChanged before later es

-- there are no differences between a content and itself
abbrev pub NoDifferences : Type 0
NoDifferences = (c : Content) (es : List Entry) → IsContent c → Differences c c es → es ≡ []

-- a dump has the records that lead to the state in which it was asked for
abbrev pub DumpsBuild : Type 0
DumpsBuild = (s t : State) (c : Command) (o : Outcome) → IsContent s.content → IsOutcome s c o t → IsDumped s o t

abbrev pub RefusedChangeNothing : Type 0
RefusedChangeNothing = (s t : State) (c : Command) (o : Outcome) → IsOutcome s c o t → IsRefused s o t
