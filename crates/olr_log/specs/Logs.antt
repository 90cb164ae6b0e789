-- What a log stores, the texts with which the next run may begin, and why a call on it failed.
--     as_journal      a log in a file, as the journal that it is
use Rattle.std.specs.Prelude.{◌≡◌, ◌⊎◌, ℕ, ◌+◌, ◌-◌, Bool, false, nat_lt, true, List, [], length, take, drop, IsSome, Some}
use Rattle.sqlite_disk.specs.declared.Disk as disk
use Rattle.olr_log.specs.declared.journal.Journal as journal
use Rattle.olr_log.specs.declared.folder.Folder as folder
use Rattle.olr_log.specs.declared.log_file.LogFile.{LogFile}
use Rattle.olr_log.specs.declared.state.State.{State}
use Rattle.olr_log.specs.declared.state.State.TheVariants.{Opened}
use Rattle.olr_log.specs.States.{stored_in, size_in, file_size_in, is_broken_in, is_native_in, is_ready_in}
use Rattle.olr_log.specs.Texts.{ends_blank}
use Rattle.olr_log.specs.Outcomes.{MayLeave}
use Rattle.olr_log.specs.Failures.{FolderFailed, NotMade, NotWritten}

-- what stands behind the text of an opened log, up to the last byte that isn't a carriage return
abbrev pub left_over_in : State → List ℕ → List ℕ
left_over_in (Opened n last len) file = take (last - n) (drop (n + 1) file)
left_over_in _ file = []

-- an opened log has bytes behind its text, left over or padding: the run before was cut off
abbrev pub is_padded_in : State → List ℕ → Bool
is_padded_in (Opened n last len) file = nat_lt (n + 1) (length file)
is_padded_in _ file = false

module _ {D F : Type 0} {d : disk.Ghosts D} {f : folder.Ghosts F D} where
  abbrev pub stored_of : LogFile D F d f → List ℕ
  stored_of log = stored_in log.state (d.seen log.disk)

  abbrev pub left_of : LogFile D F d f → List ℕ → Type 0
  left_of log = MayLeave d (f.may_lead log.folder) log.disk log.rival

  -- the file begins with an empty line, unless a call failed
  abbrev pub is_native_of : LogFile D F d f → Bool
  is_native_of log = is_native_in log.state

  -- records can be written behind the text
  abbrev pub is_ready : LogFile D F d f → Bool
  is_ready log = is_ready_in log.state

  -- the disk has done what it reported
  abbrev pub is_clean : LogFile D F d f → Bool
  is_clean log = d.is_clean log.disk

  abbrev pub left_over_of : LogFile D F d f → List ℕ
  left_over_of log = left_over_in log.state (d.seen log.disk)

  abbrev pub is_padded_of : LogFile D F d f → Bool
  is_padded_of log = is_padded_in log.state (d.seen log.disk)

  -- why these records were not stored in it, or did not replace it, or may have
  abbrev pub fails_of : LogFile D F d f → List ℕ → LogFile D F d f → Type 0
  fails_of old records new = (is_ready old ≡ false) ⊎ NotWritten d (size_in old.state + 1) records old.disk new.disk

  abbrev pub refuses_of : LogFile D F d f → List ℕ → LogFile D F d f → Type 0
  refuses_of old records new = IsSome new.refusal × ((ends_blank records ≡ true) ⊎ NotMade d f old.folder records)

  abbrev pub doubts_of : LogFile D F d f → List ℕ → LogFile D F d f → Type 0
  doubts_of old records new = (is_broken_in old.state ≡ true) ⊎ FolderFailed d f

  -- its name was not found to lead to the file, with as many bytes as that has
  abbrev pub is_lost_of : LogFile D F d f → Type 0
  is_lost_of log = (is_broken_in log.state ≡ true) ⊎ ((n : ℕ) × (file_size_in log.state ≡ Some n) × f.is_lost log.folder n)

  abbrev pub as_journal : journal.Ghosts (LogFile D F d f)
  as_journal = record {
    stored = stored_of;
    size = λ log. size_in log.state;
    may_leave = left_of;
    fails = fails_of;
    refuses = refuses_of;
    doubts = doubts_of;
    is_lost = is_lost_of;
  }
