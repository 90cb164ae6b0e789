-- The file and the folder of a log, as they are opened.
use Rattle.std.specs.Prelude.{◌≡◌, ℕ, Bool, true, [], ◌∷◌}
use Rattle.sqlite_disk.specs.Events.{settled, replay}
use Rattle.sqlite_disk.specs.Modelled.{start_of}
use Rattle.sqlite_disk.specs.declared.modelled.Modelled.{Modelled}
use Rattle.sqlite_disk.specs.declared.calls.Calls as calls
use Rattle.sqlite_disk.specs.declared.start.Start.{Ghosts}
use Rattle.olr_host.specs.Names.{MayLead}
use Rattle.olr_host.specs.declared.file.HostFile.{HostFile}
use Rattle.olr_host.specs.declared.place.LogFolder.{LogFolder}

module _ {S : Type 0} {g : calls.Ghosts HostFile} where
  -- the member `is_usable` of a file of the operating system
  abbrev pub disk_is_usable : (start : Ghosts S) → Modelled HostFile S g start → Bool
  disk_is_usable start disk = (replay (start_of start disk) disk.calls.calls.events).is_usable

  -- its number, the member `key_of`
  abbrev pub disk_number : (start : Ghosts S) → Modelled HostFile S g start → ℕ
  disk_number start disk = (replay (start_of start disk) disk.calls.calls.events).key

  -- the file of the log: it was synced, and nothing has happened since
  abbrev pub IsFreshDisk : {start : Ghosts S} → Modelled HostFile S g start → Type 0
  IsFreshDisk disk = (disk.is_log ≡ true) × (disk.calls.calls.events ≡ settled 0 ∷ [])

-- the member `may_lead` of a folder
abbrev pub folder_may_lead : LogFolder → ℕ → Type 0
folder_may_lead folder = MayLead folder.calls.events
