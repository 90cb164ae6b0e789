-- What keeps records from being stored.
--     HasFailed d old new      a call on the disk failed between
--     IsTooLong n      no file has so many bytes
--     NotRead d at n error old new      n bytes were not read
--     NotWritten d n records old new      records were not written behind n bytes
--     FolderFailed f      some call on a folder failed
--     NotMade d f folder text      no file with this text was made beside the log
use Rattle.std.specs.Prelude.{◌≡◌, ◌⊎◌, ◌+◌, ◌^◌, ◌<◌, ◌≤◌, ℕ, true, false, List, length}
use Rattle.std.specs.IoError.{error_kind}
use Rattle.std.specs.declared.io.Error.{Error}
use Rattle.std.specs.declared.io.ErrorKind.TheVariants.{OutOfMemory}
use Rattle.sqlite_disk.specs.Disk.{MoreFaults}
use Rattle.sqlite_disk.specs.declared.Disk as disk
use Rattle.olr_log.specs.Texts.{ends_blank}
use Rattle.olr_log.specs.declared.folder.Folder as folder

abbrev pub IsTooLong : ℕ → Type 0
IsTooLong n = 2 ^ 63 ≤ n

module _ {D : Type 0} (d : disk.Ghosts D) where
  abbrev pub HasFailed : D → D → Type 0
  HasFailed old new = MoreFaults (d.faults old) (d.faults new)

  -- there was no memory for them, or a call failed, unless the file ends before them
  abbrev pub NotRead : ℕ → ℕ → Error → D → D → Type 0
  NotRead at n error old new =
      (error_kind error ≡ OutOfMemory) ⊎ ((d.is_clean old ≡ true → at + n ≤ length (d.seen old)) → HasFailed old new)

  -- they end in an empty line, or are too long, or a torn write might leave any bytes, or a call failed
  abbrev pub NotWritten : ℕ → List ℕ → D → D → Type 0
  NotWritten n records old new =
      ((ends_blank records ≡ true) ⊎ IsTooLong (n + length records)) ⊎ (d.is_mixing new ≡ false) ⊎ HasFailed old new

  module _ {F : Type 0} (f : folder.Ghosts F D) where
    abbrev pub FolderFailed : Type 0
    FolderFailed = (a b : F) × f.fails a b

    -- it is too long, or a call on a folder failed, or one on a file that was made since
    abbrev pub NotMade : F → List ℕ → Type 0
    NotMade before text =
        IsTooLong (length text) ⊎ FolderFailed ⊎ ((beside : D) × (f.last before < d.key_of beside) × (0 < d.faults beside))
