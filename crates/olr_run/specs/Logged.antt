-- Runs with a log: what a run that is cut off leaves for the next one.
--     IsLogged c      a command whose record is stored in a log
--     Accepted s rs t      such records are accepted one after another
--     Leads text c      those of a log are, from the start, and lead to this content, with no batch open at the end
--     UpTo s rs os c sent      the content is the one after the first of these outcomes, and the bytes that were sent are
--         all of the texts of those, or the first of them
--     Survives s rs os may_leave sent      so it is for each text that may be left of the log
use Rattle.std.specs.Prelude.{◌≡◌, ℕ, List, [], ◌∷◌, ◌++◌, map, None, Ok, ⊤}
use Rattle.std.specs.List.{concat}
use Rattle.olr_commands.specs.State.{Content, Command, Make, Begin, Commit, State, start_state, step}
use Rattle.olr_commands.specs.RecordText.{fields_line}
use Rattle.olr_commands.specs.Reply.{Outcome}
use Rattle.olr_records.specs.Records.{Field, read}
use Rattle.olr_run.specs.Output.{SoundOutcomes, texts}

-- changes, and the records of batches that are committed
abbrev pub IsLogged : Command → Type 0
IsLogged (Make x) = ⊤
IsLogged Begin = ⊤
IsLogged (Commit count) = ⊤
IsLogged _ = ⊥

-- a content with no batch open
abbrev pub closed : Content → State
closed c = record { content = c; batch = None }

-- these records are accepted one after another, and lead from one state to another
abbrev pub Accepted : State → List (List Field) → State → Type 0
Accepted s [] t = s ≡ t
Accepted s (r ∷ rs) t =
    (c : Command) × (read r ≡ Ok c) × IsLogged c × (mid : State) × (step s c ≡ Ok mid) × Accepted mid rs t

-- each record is one line
pub record LeadsFrom (s : State) (text : List ℕ) (t : State) : Type 0 where
  pub records : List (List Field)
  pub lines : text ≡ concat (map fields_line records)
  pub accepted : Accepted s records t

abbrev pub Leads : List ℕ → Content → Type 0
Leads text c = LeadsFrom start_state text (closed c)

pub record UpTo (s : State) (rs : List (List Field)) (os : List Outcome) (c : Content) (sent : List ℕ) : Type 0 where
  pub first : List Outcome
  pub later : List Outcome
  pub splits : os ≡ first ++ later
  pub state : State
  pub run : SoundOutcomes s rs first state
  pub content : state.content ≡ c
  pub unsent : List ℕ
  pub texts_are : texts first ≡ sent ++ unsent

abbrev pub Survives : State → List (List Field) → List Outcome → (List ℕ → Type 0) → List ℕ → Type 0
Survives s rs os may_leave sent =
    (text : List ℕ) → may_leave text → (c : Content) × Leads text c × UpTo s rs os c sent
