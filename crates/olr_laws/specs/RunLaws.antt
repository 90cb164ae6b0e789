-- The laws of records, of whole runs, and of inputs that are read one record a line.
use Rattle.std.specs.Prelude.{◌≡◌, List, map, Ok, IsTrue, ℕ, Bool, [], ◌++◌, None, Err, IsOkAnd, ◌⊎◌, ◌==◌, true, false, ◌∷◌}
use Rattle.std.specs.List.{concat, list_any}
use Rattle.csv.specs.Reading.{records, default_config, strip_bom, Reached}
use Rattle.olr_commands.specs.State.{Content, Change, Command, Make, is_recordable, State, start_state, step, HasCoords, Memory}
use Rattle.olr_commands.specs.State.{IsState, Syntax}
use Rattle.olr_commands.specs.RecordText.{fields_of_change, record_line}
use Rattle.olr_records.specs.Records.{Field, read, HoldsList, Bad_form}
use Rattle.olr_records.specs.Recorded.{has_record, HaveRecords, Recorded, IsRecorded, StaysRecorded}
use Rattle.csv.specs.Machine.{next_record}
use Rattle.csv.specs.declared.parser.State.{State as CsvState}
use Rattle.olr_commands.specs.Reply.{Outcome, may_lack}
use Rattle.olr_run.specs.declared.statuses.Status.{Status}
use Rattle.olr_run.specs.declared.statuses.Status.TheVariants as status
use Rattle.olr_run.specs.Output.{RecordOutcome, Outcomes, Ran, AllHadMemory, records_of, Builds}
use Rattle.olr_records.specs.ReplyText.{outcome_text, fault_text}
use Rattle.olr_input.specs.LineRecords.{HasNoEnd, EachIs, is_rejected, line_record, line_records, lines_of}
use Rattle.csv.specs.declared.parser.State.TheVariants as st

pub record RecordLaws : Type 0 where
  -- the coordinates that are read are in range
  pub coords_read : (fields : List Field) (c : Command) → read fields ≡ Ok c → HasCoords c
  -- the record of a change is read as this change, and only such changes are read
  pub records_read : (x : Change) → IsTrue (has_record x) → read (fields_of_change x) ≡ Ok (Make x)
  pub read_recorded : (fields : List Field) (c : Command) → read fields ≡ Ok c → Recorded c
  -- csv splits the lines of records into their fields
  pub lines_split : (xs : List Change) → HaveRecords xs →
      records default_config (strip_bom (concat (map record_line xs))) ≡ map fields_of_change xs
  -- from the empty register, commands that are read lead to contents that records can spell, which a dump accepts
  pub start_recorded : StaysRecorded start_state
  pub steps_recorded : (s t : State) (c : Command) → StaysRecorded s → Recorded c → step s c ≡ Ok t → StaysRecorded t
  pub recorded_dumps : (c : Content) → IsRecorded c → IsTrue (is_recordable c)

pub record RunLaws : Type 0 where
  -- outcomes keep the register's state sound
  pub outcomes_keep : (s t : State) (rs : List (List Field)) (os : List Outcome) → IsState s → Outcomes s rs os t → IsState t
  -- apart from out of memory, what is written, the status and the state at the end are a function of the records read and
  -- the state at the start
  pub one_run : (stop : Bool) (s t u : State) (rs : List (List Field)) (w v : List ℕ) (end stand : Status) → IsState s →
      (p : Ran Outcomes stop s rs t w end) (q : Ran Outcomes stop s rs u v stand) →
      AllHadMemory p.outcomes → AllHadMemory q.outcomes → (t ≡ u) × (w ≡ v) × (end ≡ stand)
  -- the records that csv returns one after another are the first ones, and all of them if there is no further one
  pub first_records : (input : List ℕ) (found : List (List Field)) (state : CsvState) (left : List ℕ) →
      Reached default_config st.StartRecord (strip_bom input) found state left →
      (rest : List (List Field)) × (records_of input ≡ found ++ rest)
      × (next_record default_config state [] [] left ≡ None → rest ≡ [])
  -- out of memory is reported only for a record whose command holds a list, or may run out of memory when carried out
  pub memory_lacks : (s t : State) (fields : List Field) → RecordOutcome s fields (Err Memory) t →
      IsOkAnd (read fields) (λ c. HoldsList c ⊎ IsTrue (may_lack s c))
  -- apart from out of memory, a run from the empty register over the text of a dump accepts each record, and leads to the
  -- content that was dumped
  pub dumps_reload : (text : List ℕ) (n : ℕ) (c : Content) (stop : Bool) (t : State) (w : List ℕ) (end : Status) →
      Builds text n c → (p : Ran Outcomes stop start_state (records_of text) t w end) → AllHadMemory p.outcomes →
      (end ≡ status.AllAccepted) × (t ≡ record { content = c; batch = None })

-- the record of a line: of one that ends with an open quote or is too long, it has the form of no command; of each other
-- one, it is what csv reads from the line alone
abbrev pub IsRecordOf : List ℕ → List Field → Type 0
IsRecordOf line fields =
    (is_rejected line ≡ false → records default_config line ≡ fields ∷ [])
    × (is_rejected line ≡ true → read fields ≡ Err Bad_form)

-- of inputs that are read one record a line
pub record LineLaws : Type 0 where
  -- an input of which no line ends with an open quote or is longer than 16 MB has the records that csv reads from it
  pub single_stay : (bytes : List ℕ) → list_any is_rejected (lines_of (strip_bom bytes)) ≡ false →
      line_records bytes ≡ records_of bytes
  -- the first line is like the others, unless it may begin with a byte order mark
  pub first_line : (b : ℕ) (bytes : List ℕ) → (b == 0xEF) ≡ false →
      line_records (b ∷ bytes) ≡ map line_record (lines_of (b ∷ bytes))
  -- a line that isn't empty gives its record, whatever follows its end, and what follows as from the start of a line
  pub line_gives_one : (b : ℕ) (line : List ℕ) (e : ℕ) (rest : List ℕ) → HasNoEnd (b ∷ line) → (e ≡ 10) ⊎ (e ≡ 13) →
      (map line_record (lines_of ((b ∷ line) ++ e ∷ rest)) ≡ line_record (b ∷ line) ∷ map line_record (lines_of rest))
      × IsRecordOf (b ∷ line) (line_record (b ∷ line))
  -- the records of an input that is read one record a line are those of its lines that aren't empty, one for each
  pub lines_give_records : (bytes : List ℕ) → EachIs IsRecordOf (lines_of (strip_bom bytes)) (line_records bytes)
  -- the answer to a record that has the form of no command is fault 1, and it changes nothing
  pub formless_rejected : (fields : List Field) → read fields ≡ Err Bad_form → (s t : State) (o : Outcome) →
      RecordOutcome s fields o t → (outcome_text o ≡ fault_text Syntax) × (t ≡ s)
