use Rattle.olr_run.proofs.Common.{◌-◌, ◌≤◌, records_of}
use Rattle.olr_run.proofs.Restoring.{Loading}
use Rattle.olr_run.proofs.loader.restore.Given as goal

abbrev pub invariant-records : goal.invariant-records
invariant-records l = record {
  few : l.progress.taken ≤ 1099511627776;
  loading : Loading (records_of l.text) l.records l.loader l.progress.taken;
}

abbrev pub decreases-records : goal.decreases-records
decreases-records l = 1099511627776 - l.progress.taken
