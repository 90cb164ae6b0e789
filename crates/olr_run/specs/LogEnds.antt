-- How a run with a log in a file begins and ends.
--     AreRecordsOf register text      the text has the records that build the content of the register
--     is_rejected fault, is_oversized fault      a log is rejected for it; it has too many records
--     BeginsWith kind text c      what the text of a log says: of one that the program wrote, each record is a line as the
--         program writes it
--     Begins log read start register      a register and a log in which records can be stored, from a log that was opened
use Rattle.std.specs.Prelude.{◌≡◌, ◌⊎◌, ◌<◌, ℕ, Bool, true, false, List, length}
use Rattle.std.specs.List.{concat}
use Rattle.sqlite_disk.specs.declared.Disk as disk
use Rattle.olr_commands.specs.Dump.{dump_lines}
use Rattle.olr_commands.specs.State.{Content}
use Rattle.olr_log.specs.Logs.{stored_of, left_of, is_native_of, is_clean}
use Rattle.olr_log.specs.declared.folder.Folder as folder
use Rattle.olr_log.specs.declared.log_file.LogFile.{LogFile}
use Rattle.olr_register.specs.RegisterState.{Represents}
use Rattle.olr_register.specs.Registered.{Registered}
use Rattle.olr_run.specs.Logged.{closed, Leads}
use Rattle.olr_run.specs.Output.{records_of}
use Rattle.olr_run.specs.Restored.{HasContentOf, IsContentOf, LeadsNowhere, is_rejection, is_too_many, most_log_records}
use Rattle.olr_run.specs.declared.starts.StartFault.{StartFault}
use Rattle.olr_run.specs.declared.starts.StartFault.TheVariants as start
use Rattle.olr_log.specs.Journals.{Only}

abbrev pub AreRecordsOf : Registered → List ℕ → Type 0
AreRecordsOf register text = (c : Content) → Represents register.state (closed c) → text ≡ concat (dump_lines c)

-- a log is rejected for this fault, whatever memory there is
abbrev pub is_rejected : StartFault → Bool
is_rejected (start.Unusable error) = false
is_rejected (start.Records fault number line) = is_rejection fault

-- or for this one
abbrev pub is_oversized : StartFault → Bool
is_oversized (start.Unusable error) = false
is_oversized (start.Records fault number line) = is_too_many fault

abbrev pub BeginsWith : Bool → List ℕ → Content → Type 0
BeginsWith true text c = Leads text c
BeginsWith false text c = IsContentOf text c

module _ {D F : Type 0} {d : disk.Ghosts D} {f : folder.Ghosts F D} where
  -- Nothing but reads led from `log` to `read`. If the disk did what it reported, the register has the content that the text
  -- of the log says, and the log in which records can be stored leads to it, whatever a crash leaves.
  pub record Begins (log read start : LogFile D F d f) (register : Registered) : Type 0 where
    pub same : stored_of read ≡ stored_of log
    pub less : (t : List ℕ) → left_of read t → left_of log t
    pub content : is_clean read ≡ true → HasContentOf (stored_of log) register
    pub leads : is_clean read ≡ true → is_clean start ≡ true → (c : Content) → BeginsWith (is_native_of log) (stored_of log) c →
        Represents register.state (closed c) × Leads (stored_of start) c
    pub only : Only (stored_of log) (left_of log) → Only (stored_of start) (left_of start)

  abbrev pub BegunFrom : LogFile D F d f → LogFile D F d f → Registered → Type 0
  BegunFrom log start register = (read : LogFile D F d f) × Begins log read start register

  -- a log from which no run began, since it could not be read or written, or was rejected: then its records lead to no content, or
  -- there are too many
  abbrev pub Unbegun : LogFile D F d f → LogFile D F d f → Bool → Bool → Type 0
  Unbegun log last rejected oversized =
      (read : LogFile D F d f) × (stored_of read ≡ stored_of log)
      × ((t : List ℕ) → left_of last t → left_of log t ⊎ (t ≡ stored_of log)
      ⊎ (is_clean read ≡ true → (c : Content) × IsContentOf (stored_of log) c × (t ≡ concat (dump_lines c))))
      × (rejected ≡ true → is_clean read ≡ true → LeadsNowhere (stored_of log))
      × (oversized ≡ true → is_clean read ≡ true → most_log_records < length (records_of (stored_of log)))
