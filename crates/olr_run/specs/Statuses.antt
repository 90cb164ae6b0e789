-- The exit status of the program after a run, 0 to 4.
use Rattle.std.specs.Prelude.{ℕ, Result, Ok, Err}
use Rattle.olr_input.specs.declared.ends.RunFault.{RunFault}
use Rattle.olr_input.specs.declared.ends.RunFault.TheVariants as fault
use Rattle.olr_run.specs.declared.statuses.Status.{Status}
use Rattle.olr_run.specs.declared.statuses.Status.TheVariants as status

abbrev pub exit_code : Result Status RunFault → ℕ
exit_code (Ok status.AllAccepted) = 0
exit_code (Ok _) = 1
exit_code (Err fault.Memory) = 4
exit_code (Err _) = 3
