-- What a run writes for what it reads.
--     records_of input      the records of the bytes read
--     RecordOutcome s fields o t      the outcome of a record: that of its command, its own fault, or out of memory
--         while reading it
--     Outcomes s rs os t      the first records have these outcomes, one after another, from s to t
--     decoded_command fields      the command that a record decodes to.
--     Builds text n c      the text has n lines, the records of commands that are accepted one after another, from the
--         empty register, and lead to this content
--     Dumps s rs os t      the dumps of a run are such texts
--     Claims s rs os t      the claims about such a run
--     Ran Each stop s rs t written status      a whole run.
--     Faulted Each stop s rs t written e      a run that was cut off by this fault
use Rattle.std.specs.Prelude.{◌≡◌, ◌≢◌, ◌^◌, ℕ, Bool, ◌&&◌, List, [], ◌∷◌, ◌++◌, map, length, flat_map, is_err, Option}
use Rattle.std.specs.Prelude.{None, Result, Ok, Err, ◌⊎◌, IsTrue, IsFalse, if◌then◌else◌, ⊤}
use Rattle.std.specs.Result.{result_ok}
use Rattle.std.specs.List.{list_any, concat}
use Rattle.csv.specs.Reading.{records, default_config, strip_bom}
use Rattle.olr_commands.specs.State.{Memory, Not_a_record, Dump, Content, IsContent, State, start_state, Command}
use Rattle.olr_commands.specs.RecordText.{fields_line}
use Rattle.olr_commands.specs.Dump.{steps}
use Rattle.olr_commands.specs.Reply.{Outcome, IsOutcome, lacks_memory}
use Rattle.olr_commands.specs.History.{Run, Headline}
use Rattle.olr_records.specs.Records.{Field, ReadFault, read, read_fault, TakesMemory}
use Rattle.olr_records.specs.Recorded.{StaysRecorded}
use Rattle.olr_records.specs.ReplyText.{count_line, reply_text, outcome_text}
use Rattle.olr_input.specs.declared.ends.RunFault.{RunFault}
use Rattle.olr_input.specs.declared.ends.RunFault.TheVariants as fault
use Rattle.olr_run.specs.declared.statuses.Status.{Status}
use Rattle.olr_run.specs.declared.statuses.Status.TheVariants as status

-- with commas, quotes and line ends as is csv's default, no header, and any number of fields
abbrev pub records_of : List ℕ → List (List Field)
records_of input = records default_config (strip_bom input)

-- ---- one record

-- the outcome of its command, or its own fault
abbrev pub CommandOutcome : State → Result Command ReadFault → Outcome → State → Type 0
CommandOutcome s (Ok c) o t = IsOutcome s c o t
CommandOutcome s (Err fault) o t = (o ≡ Err (read_fault fault)) × (t ≡ s)

-- reading a record may run out of memory if its command holds a list
abbrev pub RecordOutcome : State → List Field → Outcome → State → Type 0
RecordOutcome s fields o t = CommandOutcome s (read fields) o t ⊎ (TakesMemory fields × (o ≡ Err Memory) × (t ≡ s))

-- ---- records, one after another

abbrev pub Outcomes : State → List (List Field) → List Outcome → State → Type 0
Outcomes s rs os t = Run RecordOutcome s rs os t

-- the content is sound after each of them
abbrev pub SoundOutcome : State → List Field → Outcome → State → Type 0
SoundOutcome s fields o t = RecordOutcome s fields o t × IsContent t.content

abbrev pub SoundOutcomes : State → List (List Field) → List Outcome → State → Type 0
SoundOutcomes s rs os t = Run SoundOutcome s rs os t

-- the command that a record decodes to
abbrev pub decoded_command : List Field → Option Command
decoded_command fields = result_ok (read fields)

-- ---- dumps

-- each record is one line
pub record Builds (text : List ℕ) (n : ℕ) (c : Content) : Type 0 where
  pub lines : text ≡ concat (map fields_line (records_of text))
  pub count : n ≡ length (records_of text)
  pub commands : List Command
  pub decoded : map read (records_of text) ≡ map (λ x. Ok x) commands
  pub leads : steps start_state commands ≡ Ok (record { content = c; batch = None })

-- the reply to an accepted dump is the number of lines, and the lines that build the content; and no command has the
-- fault that records can't write the content
abbrev pub IsDumpOf : State → List Field → Outcome → Type 0
IsDumpOf s fields (Ok reply) =
    read fields ≡ Ok Dump → (n : ℕ) × (text : List ℕ) × (reply_text reply ≡ count_line n ++ text)
    × Builds text n s.content
IsDumpOf s fields (Err fault) = fault ≢ Not_a_record

-- after these outcomes, too, records can write the content
pub record Dumps (s : State) (rs : List (List Field)) (os : List Outcome) (t : State) : Type 0 where
  pub each : Run (λ a fields o b. SoundOutcome a fields o b × IsDumpOf a fields o) s rs os t
  pub stays : StaysRecorded t

-- ---- the claims about a run

-- the claims of the commands that the records decode to, and of dumps, if records can write the content at the start: so
-- it is for the empty register
pub record Claims (s : State) (rs : List (List Field)) (os : List Outcome) (t : State) : Type 0 where
  pub headline : Headline SoundOutcome decoded_command s rs os t
  pub dumps : StaysRecorded s → Dumps s rs os t

-- no outcome follows a fault if stop is set
abbrev pub StopsAtFault : Bool → List Outcome → Type 0
StopsAtFault stop [] = ⊤
StopsAtFault stop (o ∷ os) = (IsTrue (stop && is_err o) → os ≡ []) × StopsAtFault stop os

abbrev pub any_refused : List Outcome → Bool
any_refused os = list_any is_err os

-- each record was answered, or a fault stopped the run
abbrev pub AreAnswered : Bool → List (List Field) → List Outcome → Type 0
AreAnswered stop rs os = (length os ≡ length rs) ⊎ IsTrue (stop && any_refused os)

abbrev pub texts : List Outcome → List ℕ
texts os = flat_map outcome_text os

abbrev pub run_status : Bool → List Outcome → Status
run_status stop os = if any_refused os then (if stop then status.Stopped else status.SomeRefused) else status.AllAccepted

-- ---- runs; Each is the relation of records, outcomes and states

pub record Ran (Each : State → List (List Field) → List Outcome → State → Type 0) (stop : Bool) (s : State)
    (rs : List (List Field)) (t : State) (written : List ℕ) (end : Status) : Type 0 where
  pub outcomes : List Outcome
  pub each : Each s rs outcomes t
  pub stops : StopsAtFault stop outcomes
  pub all : AreAnswered stop rs outcomes
  pub wrote : written ≡ texts outcomes
  pub ended : end ≡ run_status stop outcomes

-- by a fault before the next record was taken, by out of memory for the last text, or while that text was written; or
-- all texts were written to an output that held some of them back, and could not send them
pub data CutOff (stop : Bool) (os : List Outcome) (written : List ℕ) (e : RunFault) : Type 0 where
  Before_next : e ≢ fault.Write → IsFalse (stop && any_refused os) → written ≡ texts os → CutOff stop os written e
  No_text : e ≡ fault.Memory → (before : List Outcome) (last : Outcome) → os ≡ before ++ last ∷ [] →
      written ≡ texts before → CutOff stop os written e
  In_last : e ≡ fault.Write → (before : List Outcome) (last : Outcome) (front rest : List ℕ) → os ≡ before ++ last ∷ []
      → outcome_text last ≡ front ++ rest → rest ≢ [] → written ≡ texts before ++ front → CutOff stop os written e
  Not_sent : e ≡ fault.Write → written ≡ texts os → CutOff stop os written e

pub record Faulted (Each : State → List (List Field) → List Outcome → State → Type 0) (stop : Bool) (s : State)
    (rs : List (List Field)) (t : State) (written : List ℕ) (e : RunFault) : Type 0 where
  pub outcomes : List Outcome
  pub each : Each s rs outcomes t
  pub stops : StopsAtFault stop outcomes
  pub wrote : CutOff stop outcomes written e

-- no outcome is out of memory
abbrev pub AllHadMemory : List Outcome → Type 0
AllHadMemory os = IsFalse (list_any lacks_memory os)

-- the greatest number of records in a run, of a file and of an input together
abbrev pub most_records : ℕ
most_records = 2 ^ 41
