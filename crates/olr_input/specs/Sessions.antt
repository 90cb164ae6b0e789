-- Sessions: the events at the two ends of a run, in order.
--     Event      a record was taken, or there was none, or none could be taken, or none was taken since the texts so
--         far could not be sent; a text was written, or only its first bytes, and not the rest; what was then given to be
--         stored in the place of a log
--     Replacement      no records were asked for; these were, and they were given; or they could not be made, which was said
--     History happens a es b      these events, in this order, lead from a to b; happens is the relation of one event
--     Answer      the text of an answer, and whether it accepts its record
--     AllOrFront P bytes r      P holds of all bytes, or after a fault only of the first of them
--     TakesLeft old new failed r fields      what a call that takes a record says of the records that were left, and of those that are
use Rattle.std.specs.Prelude.{◌≡◌, ◌≢◌, ◌^◌, ℕ, Bool, true, false, List, [], ◌∷◌, ◌++◌, Option, Some, None, Result, Ok, Err, ⊤, ◌⊎◌, MatchOption}
use Rattle.std.specs.Bool.{MatchBool}
use Rattle.std.specs.Io.KnownBytes.{Appends, Keeps}
use Rattle.csv.specs.Reading.{AreRecords, default_config, names_headers, reader_config, reader_headers, reader_state}
use Rattle.csv.specs.Reading.{reader_trim, is_flexible, has_failed, records, source_of, strip_bom, took_first}
use Rattle.csv.specs.declared.reader.Reader.{Reader}
use Rattle.csv.specs.declared.reader.Trim.TheVariants as trim
use Rattle.olr_input.specs.declared.ends.RunFault.{RunFault}
use Rattle.olr_input.specs.declared.ends.RunFault.TheVariants as fault

abbrev pub Known : Type 0
Known = Option (List ℕ)

-- the most bytes that an output holds back
abbrev pub most_pending : ℕ
most_pending = 2 ^ 16

-- ---- events

pub data Replacement : Type 0 where
  Unasked : Replacement
  Given : (records : List ℕ) → Replacement
  Lacking : Replacement

abbrev pub Answer : Type 0
Answer = List ℕ × Bool

pub data Event : Type 0 where
  Took : (fields : List (List ℕ)) → Event
  Ended : Event
  Not_taken : (fault : RunFault) → Event
  Not_sent : Event
  Wrote : (answer : Answer) → Event
  Cut : (front rest : List ℕ) (accepts : Bool) → Event
  Compacted : (replacement : Replacement) → Event

abbrev pub History : {S : Type 0} → (S → Event → S → Type 0) → S → List Event → S → Type 0
History happens a [] b = a ≡ b
History {S} happens a (e ∷ es) b = (m : S) × happens a e m × History happens m es b

-- ---- calls

-- a fault of taking a record: that of the reader, or out of memory
abbrev pub IsOfTaking : RunFault → Type 0
IsOfTaking fault.Read = ⊤
IsOfTaking fault.Memory = ⊤
IsOfTaking _ = ⊥

abbrev pub TakesNext : {S : Type 0} → (S → Event → S → Type 0) → S → S → Result Bool RunFault → List (List ℕ) → Type 0
TakesNext happens old new (Ok true) fields = happens old (Took fields) new
TakesNext happens old new (Ok false) fields = happens old Ended new
TakesNext happens old new (Err e) fields =
    (happens old (Not_taken e) new × IsOfTaking e) ⊎ (happens old Not_sent new × (e ≡ fault.Write))

-- all of an answer's text was written, or only its first bytes
abbrev pub Writes : {S : Type 0} → (S → Event → S → Type 0) → S → List ℕ → Bool → S → Result (Unit {0}) RunFault → Type 0
Writes happens old text accepts new (Ok done) = happens old (Wrote (text, accepts)) new
Writes happens old text accepts new (Err e) =
    (front rest : List ℕ) × (text ≡ front ++ rest) × (rest ≢ []) × happens old (Cut front rest accepts) new
    × (e ≡ fault.Write)

abbrev pub AllOrFront : (List ℕ → Type 0) → List ℕ → Result (Unit {0}) RunFault → Type 0
AllOrFront P bytes (Ok done) = P bytes
AllOrFront P bytes (Err e) = (front rest : List ℕ) × (bytes ≡ front ++ rest) × (rest ≢ []) × P front × (e ≡ fault.Write)

-- ---- sources of records

-- whichever records were left, this is the first of them, and the others are left
abbrev pub TakesOne : (old new : List (List (List ℕ)) → Type 0) → List (List ℕ) → Type 0
TakesOne old new fields =
    (rs : List (List (List ℕ))) → old rs → (rest : List (List (List ℕ))) × (rs ≡ fields ∷ rest) × new rest

abbrev pub HasNone : (List (List (List ℕ)) → Type 0) → Type 0
HasNone left = (rs : List (List (List ℕ))) → left rs → rs ≡ []

-- if no record can be taken, because a reader or an allocation failed, then the source has failed
abbrev pub TakesLeft : (old new : List (List (List ℕ)) → Type 0) → (failed : Bool) → Result Bool RunFault →
    List (List ℕ) → Type 0
TakesLeft old new failed (Ok true) fields = TakesOne old new fields
TakesLeft old new failed (Ok false) fields = HasNone old
TakesLeft old new failed (Err e) fields = (failed ≡ true) × IsOfTaking e

-- the records that are left of a source, if there is one
abbrev pub FirstLeft : {A : Type 0} → (A → List (List (List ℕ)) → Type 0) → Option A → List (List (List ℕ)) → Type 0
FirstLeft left None rs = rs ≡ []
FirstLeft left (Some first) rs = left first rs

-- and then those of another
abbrev pub JoinedLeft : {A B : Type 0} → (A → List (List (List ℕ)) → Type 0) → (B → List (List (List ℕ)) → Type 0) →
    Option A → B → List (List (List ℕ)) → Type 0
JoinedLeft left_of_first left first second rs =
    (ps qs : List (List (List ℕ))) × FirstLeft left_of_first first ps × left second qs × (rs ≡ ps ++ qs)

-- the events of a source and a writer whose bytes are known; the writer may be flushed before a record is taken. No records are
-- asked for
abbrev pub PlainHappens : {S : Type 0} → (S → List (List (List ℕ)) → Type 0) → (S → Bool) → S → S → Known → Known → Event → Type 0
PlainHappens left failed old new before later (Took fields) = TakesOne (left old) (left new) fields × Keeps before later
PlainHappens left failed old new before later Ended = HasNone (left old) × Keeps before later
PlainHappens left failed old new before later (Not_taken e) = (failed new ≡ true) × Keeps before later
PlainHappens left failed old new before later Not_sent = (new ≡ old) × Keeps before later
PlainHappens left failed old new before later (Wrote answer) = (new ≡ old) × Appends before later answer.0
PlainHappens left failed old new before later (Cut front rest accepts) = (new ≡ old) × Appends before later front
PlainHappens left failed old new before later (Compacted Unasked) = (new ≡ old) × Keeps before later
PlainHappens left failed old new before later (Compacted replacement) = ⊥

-- ---- records as csv reads them

-- all records of an input
abbrev pub csv_records : List ℕ → List (List (List ℕ))
csv_records bytes = records default_config (strip_bom bytes)

-- a csv reader with its defaults, no header, any number of fields, and no field trimmed
pub record IsPlain {R : Type 0} (r : Reader R) : Type 0 where
  pub config : reader_config r ≡ default_config
  pub trim : reader_trim r ≡ trim.None
  pub flexible : is_flexible r ≡ true
  pub no_header : names_headers r ≡ false
  pub none : took_first r ≡ false → reader_headers r ≡ None

abbrev pub StaysPlain : {R : Type 0} → Reader R → Type 0
StaysPlain r = has_failed r ≡ false → IsPlain r

-- the records that are left of such a reader
abbrev pub csv_left : {R : Type 0} → (R → Known) → Reader R → List (List (List ℕ)) → Type 0
csv_left remaining r rs =
    MatchBool (has_failed r) (rs ≡ [])
    (MatchOption (source_of remaining r) ⊥ (λ bytes. AreRecords default_config (reader_state r) bytes rs))
