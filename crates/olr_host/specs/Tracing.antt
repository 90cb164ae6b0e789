-- Calls on a file or a folder, as events.
use Rattle.std.specs.Prelude.{ℕ, length, take, Result, Ok, Err, is_ok}
use Rattle.std.specs.declared.io.Error.{Error}
use Rattle.sqlite_disk.specs.Events.{Event, settled, measured, read, read_under, written, cut, flushed}
use Rattle.sqlite_disk.specs.Refusal.{is_no_room, finds_no_room, as_number}
use Rattle.olr_host.specs.Names.{renamed, folder_synced}
use Rattle.olr_host.specs.declared.traced.Call.{Call}
use Rattle.olr_host.specs.declared.traced.Call.TheVariants as call

abbrev pub count_of : Result ℕ Error → ℕ
count_of (Ok n) = n
count_of (Err e) = 0

-- of a write that failed, whether there was no room
abbrev pub taken_of : Result ℕ Error → ℕ
taken_of (Ok n) = n
taken_of (Err e) = as_number (is_no_room e)

abbrev pub event_of : Call → Event
event_of (call.Settled number) = settled number
event_of (call.Measured answer) = measured (is_ok answer.now) (count_of answer.now)
event_of (call.Read at bytes answer) =
    read at (length bytes.now) (is_ok answer.now) (take (count_of answer.now) bytes.now)
event_of (call.ReadUnder key want at bytes answer) =
    read_under key want at (length bytes.now) (is_ok answer.now) (take (count_of answer.now) bytes.now)
event_of (call.Written at bytes answer) = written at bytes.now (is_ok answer.now) (taken_of answer.now)
event_of (call.Resized len answer) = cut len (is_ok answer.now) (as_number (finds_no_room answer.now))
event_of (call.Renamed number is_refused answer) = renamed number (is_ok answer.now) is_refused
event_of (call.SyncedFolder answer) = folder_synced (is_ok answer.now)
event_of (call.Synced answer) = flushed (is_ok answer.now) (as_number (finds_no_room answer.now))
