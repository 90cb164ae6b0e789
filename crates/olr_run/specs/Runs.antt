-- Runs on a register in terms of Rust's values: in a session, and by the known bytes of a reader and a writer.
--     CarriedOut old fields new P      the effect of a record on the register, and what is true of its outcome
--     AnswersRecord      the same, and its text was written
--     IsReplacement t replacement      the records that were given are those of the content
--     LacksRecords fault t      why there are none
--     Exchange      a record that was taken, its answer, and the records that were then given
--     Exchanged      the history of a session: each record was taken and answered before the next
--     RanIn, CutIn      a run in a session
--     records_read single file input      the records of a file followed by those of the input, one a line or not
--     LeadsOn, RanOn, FaultedOn, EndedOn      a run over known records
use Rattle.std.specs.Prelude.{◌≡◌, ◌≢◌, ℕ, ◌<◌, Bool, ◌&&◌, List, [], ◌∷◌, ◌++◌, length, map, Option, Some, None}
use Rattle.std.specs.Prelude.{Result, Ok, Err, IfSome, is_ok, is_some, flat_map, IsFalse, IsTrue, ◌⊎◌, ⊤}
use Rattle.std.specs.Io.KnownBytes.{Appends}
use Rattle.std.specs.List.{concat}
use Rattle.std.specs.Option.{option_map_or}
use Rattle.std.specs.Borrow.{Bor}
use Rattle.olr_commands.specs.Dump.{dump_lines}
use Rattle.olr_commands.specs.History.{Whole}
use Rattle.olr_commands.specs.Reply.{Entry, Paths, AllOf, Outcome}
use Rattle.olr_commands.specs.State.{IsContent, State, Fault, Batch_open, Not_a_record, Memory, is_recordable}
use Rattle.olr_commands.specs.Words.{reply_of}
use Rattle.olr_commands.specs.declared.reply.Reply.{Reply}
use Rattle.olr_records.specs.Records.{Field}
use Rattle.olr_records.specs.ReplyText.{outcome_text, reply_text, fault_text}
use Rattle.olr_register.specs.RegisterState.{Represents}
use Rattle.olr_register.specs.Registered.{Registered}
use Rattle.olr_run.specs.Output.{SoundOutcome, Claims, StopsAtFault, any_refused, run_status, Ran, Faulted}
use Rattle.olr_run.specs.Output.{most_records}
use Rattle.olr_input.specs.Inputs.{input_records}
use Rattle.olr_input.specs.Sessions.{Known, Event, Took, Ended, Not_taken, Wrote, Cut, Replacement, Unasked, Given, Lacking}
use Rattle.olr_input.specs.Sessions.{Answer, Compacted, History, IsOfTaking}
use Rattle.olr_input.specs.Sessions as event
use Rattle.olr_input.specs.declared.ends.RunFault.{RunFault}
use Rattle.olr_input.specs.declared.ends.RunFault.TheVariants as fault
use Rattle.olr_run.specs.declared.statuses.Status.{Status}
use Rattle.olr_run.specs.declared.statuses.Status.TheVariants as status

-- ---- one record

-- the reply, or the text of the fault
abbrev pub IsAnswer : Result Reply (Bor (List ℕ)) → Outcome → Type 0
IsAnswer (Ok reply) o = o ≡ Ok (reply_of reply)
IsAnswer (Err line) o = (fault : Fault) × (o ≡ Err fault) × (line.now ≡ fault_text fault)

-- the record has an outcome that satisfies P, from each state that the register represented
abbrev pub CarriedOut : Registered → List Field → Registered → (Outcome → Type 0) → Type 0
CarriedOut old fields new P =
    (s : State) → Represents old.state s → IsContent s.content → (t : State) × (o : Outcome) × Represents new.state t
    × SoundOutcome s fields o t × P o

-- the text of an outcome, and whether it accepts its record
abbrev pub answer_of : Outcome → Answer
answer_of o = (outcome_text o, is_ok o)

-- the text of an answer
abbrev pub answer_text : Result Reply (Bor (List ℕ)) → List ℕ
answer_text (Ok reply) = reply_text (reply_of reply)
answer_text (Err line) = line.now

-- the text of the answers of all paths satisfies P
abbrev pub IsReport : Registered → (List ℕ → Type 0) → Type 0
IsReport register P =
    (s : State) → Represents register.state s
    → (es : List Entry) × AllOf s.content.margin s.content.map s.content.paths es × P (reply_text (Paths es))

-- the answer was written, or an allocation failed, or only its first bytes were written
abbrev pub WritesText : {S : Type 0} → (S → Event → S → Type 0) → S → List ℕ → S → Result Bool RunFault → Bool → Type 0
WritesText happens before text later (Ok accepted) is = happens before (Wrote (text, is)) later × (accepted ≡ is)
WritesText happens before text later (Err e) is =
    ((e ≡ fault.Memory) × (later ≡ before))
    ⊎ ((front rest : List ℕ) × (text ≡ front ++ rest) × (rest ≢ []) × happens before (Cut front rest is) later
    × (e ≡ fault.Write))

-- a record's command is carried out, and its answer is written: it has this text, and accepts the command or not
pub record AnswersRecord {S : Type 0} (happens : S → Event → S → Type 0) (old : Registered) (fields : List Field)
    (new : Registered) (before later : S) (r : Result Bool RunFault) : Type 0 where
  pub text : List ℕ
  pub accepts : Bool
  pub writes : WritesText happens before text later r accepts
  pub outcome : CarriedOut old fields new (λ o. answer_of o ≡ (text, accepts))

-- the records that are given, to be stored in the place of a log, are those of the content, while no batch is open
abbrev pub IsReplacement : State → Replacement → Type 0
IsReplacement t Unasked = ⊤
IsReplacement t (Given records) = (t.batch ≡ None) × (records ≡ concat (dump_lines t.content))
IsReplacement t Lacking = ⊤

abbrev pub AreReplacement : Registered → Replacement → Type 0
AreReplacement register replacement = (t : State) → Represents register.state t → IsReplacement t replacement

-- why there are no records of the content: a batch is open; if none is, a part of it can't be written as a record, or there
-- is no memory
abbrev pub LacksRecords : Fault → State → Type 0
LacksRecords Batch_open t = IsTrue (is_some t.batch)
LacksRecords Not_a_record t = (t.batch ≡ None) × IsFalse (is_recordable t.content)
LacksRecords Memory t = (t.batch ≡ None) × IsTrue (is_recordable t.content)
LacksRecords _ t = ⊥

abbrev pub HaveNoRecords : Registered → Fault → Type 0
HaveNoRecords register fault = (t : State) → Represents register.state t → LacksRecords fault t

-- the records of the register were given if they were asked for, or it was said that they are lacking
abbrev pub CompactsFrom : {S W : Type 0} → (S × W → Event → S × W → Type 0) → Registered → S → S → Type 0
CompactsFrom {S} {W} happens register before later =
    (replacement : Replacement) × AreReplacement register replacement
    × ((output : W) → happens (before, output) (Compacted replacement) (later, output))

-- ---- runs in a session

-- a record that was taken, its answer, and the records that were given after it, if they were asked for
pub record Exchange : Type 0 where
  pub fields : List Field
  pub answer : Answer
  pub replacement : Replacement

abbrev pub records_taken : List Exchange → List (List Field)
records_taken xs = map (λ x. x.fields) xs

abbrev pub events_of : Exchange → List Event
events_of x = Took x.fields ∷ Wrote x.answer ∷ Compacted x.replacement ∷ []

-- the record has this outcome, with this answer; the records that were given are those of the content
abbrev pub IsExchange : State → Exchange → Outcome → State → Type 0
IsExchange s x o t = SoundOutcome s x.fields o t × (answer_of o ≡ x.answer) × IsReplacement t x.replacement

-- from each state that the register represented, the records of these exchanges have outcomes with their answers, and lead
-- to a state that it represents; after each of them the records of the content are given, if they are asked for
abbrev pub AnsweredOn : Bool → (List Outcome → Type 0) → Registered → List Exchange → Registered → Type 0
AnsweredOn stop And old xs new =
    (s : State) → Represents old.state s → (t : State) × Represents new.state t × (os : List Outcome)
    × Claims s (records_taken xs) os t × Whole IsExchange s xs os t × StopsAtFault stop os × And os

-- no event follows the rejected record that stops the run; otherwise there is no further record
abbrev pub last_events : Status → List Event
last_events status.Stopped = []
last_events _ = Ended ∷ []

-- each record was taken, and its answer written before the next; and then there were these events
pub record Exchanged {S : Type 0} (happens : S → Event → S → Type 0) (before later : S) (es : List Event) : Type 0 where
  pub done : List Exchange
  pub history : History happens before (flat_map events_of done ++ es) later

pub record RanIn {S : Type 0} (happens : S → Event → S → Type 0) (stop : Bool) (old : Registered) (before : S)
    (new : Registered) (later : S) (end : Status) : Type 0 where
  pub x : Exchanged happens before later (last_events end)
  pub answered : AnsweredOn stop (λ os. end ≡ run_status stop os) old x.done new

abbrev pub GoesOn : Bool → List Outcome → Type 0
GoesOn stop os = IsFalse (stop && any_refused os)

-- of a record whose answer was not written
abbrev pub unwritten : List Field → Answer → Exchange
unwritten r answer = record { fields = r; answer = answer; replacement = Unasked }

-- the same, up to a record that can't be taken, or before which the texts could not be sent, or one more than the
-- greatest number; or up to a record whose text was not made, out of memory, or not written completely
pub data CutIn {S : Type 0} (happens : S → Event → S → Type 0) (stop : Bool) (old : Registered) (before : S)
    (new : Registered) (later : S) (e : RunFault) : Type 0 where
  In_taking : IsOfTaking e → (x : Exchanged happens before later (Not_taken e ∷ [])) →
      AnsweredOn stop (GoesOn stop) old x.done new → CutIn happens stop old before new later e
  Not_sent : e ≡ fault.Write → (x : Exchanged happens before later (event.Not_sent ∷ [])) →
      AnsweredOn stop (GoesOn stop) old x.done new → CutIn happens stop old before new later e
  Past_the_most : e ≡ fault.TooMany → (r : List Field) (x : Exchanged happens before later (Took r ∷ [])) →
      length x.done ≡ most_records → AnsweredOn stop (GoesOn stop) old x.done new → CutIn happens stop old before new later e
  No_text : e ≡ fault.Memory → (r : List Field) (answer : Answer) (x : Exchanged happens before later (Took r ∷ [])) →
      AnsweredOn stop (λ os. ⊤) old (x.done ++ unwritten r answer ∷ []) new → CutIn happens stop old before new later e
  In_text : e ≡ fault.Write → (r : List Field) (front rest : List ℕ) (accepts : Bool) → rest ≢ [] →
      (x : Exchanged happens before later (Took r ∷ Cut front rest accepts ∷ [])) →
      AnsweredOn stop (λ os. ⊤) old (x.done ++ unwritten r (front ++ rest, accepts) ∷ []) new
      → CutIn happens stop old before new later e

-- ---- runs over known records

abbrev pub Records : Type 0
Records = Option (List (List Field))

-- the bytes of a file, or no bytes if there is no file
abbrev pub file_bytes : {F : Type 0} → (F → Known) → Option F → Known
file_bytes remaining file = option_map_or remaining file (Some [])

abbrev pub joined_records : Records → Records → Records
joined_records None second = None
joined_records (Some rs) None = None
joined_records (Some rs) (Some qs) = Some (rs ++ qs)

-- from each state that the register represented, a run leads to a state that it represents, with these bytes written
abbrev pub LeadsOn : (State → List (List Field) → State → List ℕ → Type 0) → Registered → Records → Known → Registered →
    Known → Type 0
LeadsOn Leads old records before new later =
    IfSome records (λ rs. (s : State) → Represents old.state s
    → (t : State) × Represents new.state t × (written : List ℕ) × Appends before later written × Leads s rs t written)

abbrev pub RanOn : (State → List (List Field) → List Outcome → State → Type 0) → Bool → Registered → Records → Known →
    Registered → Known → Status → Type 0
RanOn Each stop old records before new later end =
    LeadsOn (λ s rs t written. Ran Each stop s rs t written end) old records before new later

-- of a run that was cut off by this fault
abbrev pub FaultedOn : (State → List (List Field) → List Outcome → State → Type 0) → Bool → Registered → Records →
    Known → Registered → Known → RunFault → Type 0
FaultedOn Each stop old records before new later e =
    LeadsOn (λ s rs t written. Faulted Each stop s rs t written e) old records before new later

-- there were more records than a run takes, if this fault cuts it off
abbrev pub HadTooMany : RunFault → Records → Type 0
HadTooMany e records = e ≡ fault.TooMany → IfSome records (λ rs. most_records < length rs)

-- the end of a run: whole, or cut off
abbrev pub EndedOn : (Whole Part : State → List (List Field) → List Outcome → State → Type 0) → Bool → Registered →
    Records → Known → Registered → Known → Result Status RunFault → Type 0
EndedOn Whole Part stop old records before new later (Ok end) = RanOn Whole stop old records before new later end
EndedOn Whole Part stop old records before new later (Err e) =
    FaultedOn Part stop old records before new later e × HadTooMany e records

-- the end of a run once its answers were sent, or could not be
abbrev pub once_sent : {A : Type 0} → Result Status RunFault → Result A RunFault → Result Status RunFault
once_sent (Ok end) (Ok sent) = Ok end
once_sent (Ok end) (Err e) = Err e
once_sent (Err e) sent = Err e

abbrev pub records_read : Bool → Known → Known → Records
records_read single file input = joined_records (input_records single file) (input_records single input)
