-- The laws of runs with a log, one after another.
--     ContinuedBy      a run that was cut off and the next one are one run
--     TwoRuns      so it is for what a run leaves of its log
use Rattle.std.specs.Prelude.{◌≡◌, ℕ, Bool, true, List, [], ◌∷◌, ◌++◌, take, length, codes, Option, Some, None, Ok, ⊤}
use Rattle.std.specs.Io.KnownBytes.{Appends}
use Rattle.sqlite_disk.specs.declared.Disk as disk
use Rattle.olr_commands.specs.Reply.{Outcome, Paths}
use Rattle.olr_commands.specs.State.{Change, Content, IsContent, State}
use Rattle.olr_log.specs.Logs.{stored_of, left_of, is_native_of, is_clean}
use Rattle.olr_log.specs.declared.folder.Folder as folder
use Rattle.olr_log.specs.declared.log_file.LogFile.{LogFile}
use Rattle.olr_records.specs.Records.{Field}
use Rattle.olr_run.specs.LogEnds.{BeginsWith}
use Rattle.olr_run.specs.Logged.{closed, UpTo}
use Rattle.olr_run.specs.Output.{Claims, SoundOutcomes, texts}
use Rattle.olr_run.specs.Ends.{FromLog, Not_begun, Begun}
use Rattle.olr_input.specs.Buffers.{pending, written}
use Rattle.olr_log.specs.Journals.{Only}
use Rattle.olr_input.specs.Sessions.{Known}
use Rattle.olr_input.specs.declared.buffered.Buffered.{Buffered}

-- the record that drops an open batch, and its outcome
abbrev pub dropping : Option (List Change) → List (List Field)
dropping None = []
dropping (Some xs) = (codes "abort" ∷ []) ∷ []

abbrev pub dropped : Option (List Change) → List Outcome
dropped None = []
dropped (Some xs) = Ok (Paths []) ∷ []

-- Of the texts of the first outcomes of a run, `sent` was sent. The records of these outcomes, `abort` if they leave a batch
-- open, and the records of the next run are one run, with the claims about it.
pub record ContinuedBy (s : State) (rs : List (List Field)) (sent : List ℕ) (qs : List (List Field)) (next : List Outcome)
    (t : State) : Type 0 where
  pub first : List Outcome
  pub middle : State
  pub run : SoundOutcomes s rs first middle
  pub unsent : List ℕ
  pub texts_are : texts first ≡ sent ++ unsent
  pub claims : Claims s (take (length first) rs ++ dropping middle.batch ++ qs) (first ++ dropped middle.batch ++ next) t

-- a run that was cut off, and one from the content to which it left its log
abbrev pub NextContinues : Type 0
NextContinues =
    (s t : State) (rs qs : List (List Field)) (os next : List Outcome) (c : Content) (sent : List ℕ) →
    IsContent s.content → UpTo s rs os c sent → Claims (closed c) qs next t → ContinuedBy s rs sent qs next t

module _ {D F : Type 0} {d : disk.Ghosts D} {f : folder.Ghosts F D} {W : Type 0} {contents : W → Known}
    {log last : LogFile D F d f} {least : ℕ} {stop : Bool} {records : Option (List (List Field))} {o p : Buffered W} {code : ℕ} where
  abbrev pub HasBegun : FromLog contents log last least stop records o p code → Type 0
  HasBegun (Not_begun same rejected oversized status left) = ⊥
  HasBegun (Begun read start old new begins end run g through after status) = ⊤

  -- the disk did what it reported
  abbrev pub IsHonest : FromLog contents log last least stop records o p code → Type 0
  IsHonest (Not_begun same rejected oversized status left) = ⊤
  IsHonest (Begun read start old new begins end run g through after status) =
      (is_clean read ≡ true) × (is_clean start ≡ true)

module _ {D F : Type 0} (d : disk.Ghosts D) (f : folder.Ghosts F D) {W : Type 0} (contents : W → Known) where
  -- A run from a log that led to a content, which may be cut off at any moment; and a run from a log whose text is one that may
  -- be left of it. Of its answers the first one sent the texts of the first outcomes, or their first bytes, and the second
  -- one wrote those of its own.
  abbrev pub TwoRuns : Type 0
  TwoRuns =
      (log last : LogFile D F d f) (least : ℕ) (stop : Bool) (rs : List (List Field)) (o p : Buffered W) (code : ℕ)
      (one : FromLog contents log last least stop (Some rs) o p code) → HasBegun one → IsHonest one → (c : Content) →
      BeginsWith (is_native_of log) (stored_of log) c → Only (stored_of log) (left_of log) → pending o ≡ [] →
      (next end : LogFile D F d f) (most : ℕ) (again : Bool) (qs : List (List Field)) (u v : Buffered W) (status : ℕ)
      (two : FromLog contents next end most again (Some qs) u v status) → HasBegun two → IsHonest two →
      is_native_of next ≡ true → left_of last (stored_of next) →
      (sent : List ℕ) × Appends (contents o.device) (contents p.device) sent
      × (outcomes : List Outcome) × (t : State) × ContinuedBy (closed c) rs sent qs outcomes t
      × (wrote rest : List ℕ) × Appends (written contents u) (written contents v) wrote × (texts outcomes ≡ wrote ++ rest)
