-- The gate of a run with a log: what is sent, and what is stored before it.
--     Storing old new sent      what happened to the log while these bytes were sent
--     Passes g o h p text      a text was written: of what was held back before, and of the text, the first bytes were sent,
--         and the rest is held back
--     PassesSome      the first bytes of a text were written
--     Untouched g h      nothing happened to the log, and it is replaced from the same length on
--     ConcludedBy u accepted v      the record whose line was taken last was accepted or rejected
--     Compacts j g records h      these records were given, to be stored in the place of the log
--     PutsOff j g h      they could not be made
--     Closes j g h      a gate is closed only for what the log met
--     TookLine g fields h, LostLine g h      the line of a record was taken, or could not be
--     compaction g      when the log is replaced by the records of what is accepted
--     IsNew j log least g      a gate before the first record, with this log, which is replaced from this length on
--     put_off len c      the same after they were given, or could not be: the next time, the log has twice its length
use Rattle.std.specs.Prelude.{◌≡◌, ◌≢◌, ◌≤◌, ◌*◌, ◌-◌, ◌^◌, ℕ, min, max, nat_le, Bool, true, false, not, ◌&&◌, ◌||◌}
use Rattle.std.specs.Prelude.{if◌then◌else◌, List, [], ◌++◌, take, length, is_some, Result, Ok, Err, ◌⊎◌}
use Rattle.std.specs.Io.KnownBytes.{Appends}
use Rattle.olr_input.specs.Buffers.{is_empty, pending}
use Rattle.olr_log.specs.Journals.{IsFront, MayHaveStored, Only, is_whole}
use Rattle.olr_log.specs.StoredLines.{effect_of, is_compact, stored_line, concluded}
use Rattle.olr_input.specs.Sessions.{Known}
use Rattle.olr_log.specs.Unstored.{waiting, next_line}
use Rattle.olr_input.specs.declared.buffered.Buffered.{Buffered}
use Rattle.olr_log.specs.declared.journal.Journal as journal
use Rattle.olr_input.specs.declared.ends.RunFault.{RunFault}
use Rattle.olr_input.specs.declared.ends.RunFault.TheVariants as fault
use Rattle.olr_log.specs.declared.gate.Gate.{Gate}
use Rattle.olr_input.specs.declared.record.Effect.{Effect}
use Rattle.olr_log.specs.declared.unstored.Unstored.{Unstored}

-- nothing is sent through a gate whose log has failed
abbrev pub is_closed : {J : Type 0} → Gate J → Bool
is_closed g = is_some g.fault

abbrev pub ready : {J : Type 0} → Gate J → List ℕ
ready g = (waiting g.unstored).ready

abbrev pub batch : {J : Type 0} → Gate J → List ℕ
batch g = (waiting g.unstored).batch

-- ---- when a log is replaced

-- whether the records of what is accepted are wanted, the length from which on the log is replaced the next time, and the least
-- such length
pub record Compaction : Type 0 where
  pub is_wanted : Bool
  pub next_from : ℕ
  pub compacted_from : ℕ

abbrev pub compaction : {J : Type 0} → Gate J → Compaction
compaction g = record { is_wanted = g.is_wanted; next_from = g.next_from; compacted_from = g.compacted_from }

-- the records are asked for if they are wanted, the log has not failed, and no batch is open
abbrev pub asks : {J : Type 0} → Gate J → Bool
asks g = g.is_wanted && not (is_closed g) && is_empty (batch g)

-- whether they are wanted after a record of this effect, while the log has so many bytes: they were before, or the record is a
-- `compact` that was accepted, or the log has the length from which on it is replaced
abbrev pub is_due : ℕ → Bool → Effect → Compaction → Bool
is_due len accepted effect c = c.is_wanted || (accepted && is_compact effect) || nat_le c.next_from len

abbrev pub concluded_compaction : ℕ → Bool → Effect → Compaction → Compaction
concluded_compaction len accepted effect c = record c { is_wanted = is_due len accepted effect c }

-- twice a length, and the least length at least
abbrev pub twice : ℕ → ℕ → ℕ
twice len least = max (min (len * 2) (2 ^ 64 - 1)) least

-- the length from which on a log of so many bytes is replaced: one that has the least length already was replaced at the start, or
-- could not be
abbrev pub first_from : ℕ → ℕ → ℕ
first_from len least = if nat_le least len then twice len least else least

abbrev pub put_off : ℕ → Compaction → Compaction
put_off len c = record c { is_wanted = false; next_from = twice len c.compacted_from }

pub record IsNew {J : Type 0} (j : journal.Ghosts J) (log : J) (least : ℕ) (g : Gate J) : Type 0 where
  pub journal : g.journal ≡ log
  pub none : waiting g.unstored ≡ record { ready = []; batch = [] }
  pub works : is_closed g ≡ false
  pub due : compaction g ≡ record { is_wanted = false; next_from = first_from (j.size log) least; compacted_from = least }

-- ---- what passes

pub record Untouched {J : Type 0} (g h : Gate J) : Type 0 where
  pub journal : h.journal ≡ g.journal
  pub fault : h.fault ≡ g.fault
  pub length : h.compacted_from ≡ g.compacted_from

-- what was ready is stored before anything is sent
pub data Storing {J : Type 0} (stored : J → List ℕ) (may_leave : J → List ℕ → Type 0) (old new : Gate J) (sent : List ℕ) :
    Type 0 where
  None_sent : new.journal ≡ old.journal → ready new ≡ ready old → sent ≡ []
      → (is_closed old ≡ true → is_closed new ≡ true) → Storing stored may_leave old new sent
  None_ready : is_closed old ≡ false → new.journal ≡ old.journal → ready old ≡ [] → ready new ≡ []
      → Storing stored may_leave old new sent
  All_stored : is_closed old ≡ false → stored new.journal ≡ stored old.journal ++ ready old
      → Only (stored new.journal) (may_leave new.journal) → ready new ≡ [] → Storing stored may_leave old new sent
  Cut_off : is_closed old ≡ false → MayHaveStored stored may_leave old.journal (ready old) new.journal → ready old ≢ []
      → sent ≡ [] → is_closed new ≡ true → Storing stored may_leave old new sent

-- the open batch, and the line that was taken last, stay
pub record SameBatch {J : Type 0} (g h : Gate J) : Type 0 where
  pub batches : batch h ≡ batch g
  pub line : next_line h.unstored ≡ next_line g.unstored
  pub effects : h.unstored.effect ≡ g.unstored.effect

pub record Passes {J W : Type 0} (stored : J → List ℕ) (may_leave : J → List ℕ → Type 0) (contents : W → Known) (g : Gate J)
    (o : Buffered W) (h : Gate J) (p : Buffered W) (text : List ℕ) : Type 0 where
  pub sent : List ℕ
  pub storing : Storing stored may_leave g h sent
  pub others : SameBatch g h
  pub due : compaction h ≡ compaction g
  pub device : Appends (contents o.device) (contents p.device) sent
  pub bytes : pending o ++ text ≡ sent ++ pending p

abbrev pub PassesSome : {J W : Type 0} → (J → List ℕ) → (J → List ℕ → Type 0) → (W → Known) → Gate J → Buffered W →
    Gate J → Buffered W → List ℕ → Result ℕ RunFault → Type 0
PassesSome stored may_leave contents g o h p text (Ok n) =
    (n ≤ length text) × Passes stored may_leave contents g o h p (take n text)
PassesSome stored may_leave contents g o h p text (Err e) =
    Passes stored may_leave contents g o h p [] × (e ≡ fault.Write)

pub record ConcludedBy (u : Unstored) (accepted : Bool) (v : Unstored) : Type 0 where
  pub waits : waiting v ≡ (if accepted then concluded u.effect (next_line u) (waiting u) else waiting u)
  pub fronts : (front : List ℕ) → IsFront (waiting v).ready front →
      IsFront (waiting u).ready front ⊎ (front ≡ (waiting v).ready)

-- a log that isn't closed was replaced by these records, with all that was ready, where no batch is open; or it was left, since
-- they aren't whole, or since it refused them
pub data Replacement {J : Type 0} (j : journal.Ghosts J) (g : Gate J) (records : List ℕ) (h : Gate J) : Type 0 where
  Replaced : batch g ≡ [] → j.stored h.journal ≡ records → (Only (j.stored g.journal) (j.may_leave g.journal)
      → Only (j.stored h.journal) (j.may_leave h.journal)) → waiting h.unstored ≡ record { ready = []; batch = [] }
      → Replacement j g records h
  Left_as_it_was : (is_whole records ≡ false) ⊎ j.refuses g.journal records h.journal → j.stored h.journal ≡ j.stored g.journal
      → (Only (j.stored g.journal) (j.may_leave g.journal) → Only (j.stored h.journal) (j.may_leave h.journal))
      → waiting h.unstored ≡ waiting g.unstored → Replacement j g records h

-- the log was not where it was, or some call on it failed
abbrev pub HasFailed : {J : Type 0} → journal.Ghosts J → Type 0
HasFailed {J} j = (a b : J) × (records : List ℕ) × (j.is_lost a ⊎ j.fails a records b ⊎ j.doubts a records b)

abbrev pub Closes : {J : Type 0} → journal.Ghosts J → Gate J → Gate J → Type 0
Closes j g h = is_closed h ≡ true → (is_closed g ≡ true) ⊎ HasFailed j

pub record Compacts {J : Type 0} (j : journal.Ghosts J) (g : Gate J) (records : List ℕ) (h : Gate J) : Type 0 where
  pub closes : Closes j g h
  pub cut : (c : List ℕ) → j.may_leave h.journal c → j.may_leave g.journal c ⊎ ((c ≡ records) × (is_closed g ≡ false))
  pub going : is_closed h ≡ false → (is_closed g ≡ false) × Replacement j g records h
  pub length : h.compacted_from ≡ g.compacted_from

-- nothing happens to the log before it has twice its length
pub record PutsOff {J : Type 0} (j : journal.Ghosts J) (g h : Gate J) : Type 0 where
  pub untouched : Untouched g h
  pub unstored : h.unstored ≡ g.unstored
  pub due : compaction h ≡ put_off (j.size g.journal) (compaction g)

pub record TookLine {J : Type 0} (g : Gate J) (fields : List (List ℕ)) (h : Gate J) : Type 0 where
  pub untouched : Untouched g h
  pub due : compaction h ≡ compaction g
  pub waits : waiting h.unstored ≡ waiting g.unstored
  pub effect : h.unstored.effect ≡ effect_of fields
  pub line : next_line h.unstored ≡ stored_line fields

pub record LostLine {J : Type 0} (g h : Gate J) : Type 0 where
  pub untouched : Untouched g h
  pub due : compaction h ≡ compaction g
  pub waits : waiting h.unstored ≡ waiting g.unstored
