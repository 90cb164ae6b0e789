use Rattle.olr_input.proofs.CsvRecords.{first_records}
use Rattle.olr_records.proofs.ReadLemmas.{coords_read, read_recorded}
use Rattle.olr_records.proofs.RecordLines.{records_split}
use Rattle.olr_records.proofs.RecordedLemmas.{step_stays, start_recorded, recorded_dumps}
use Rattle.olr_records.proofs.WrittenLemmas.{record_back}
use Rattle.olr_laws.proofs.LineLemmas.{single_stay, first_line, one_record, records_of_lines, formless_rejected}
use Rattle.olr_laws.proofs.RunLemmas.{outcomes_keep, one_run, memory_lacks, dumps_reload}
use Rattle.olr_laws.proofs.laws.laws_of_runs.Goals as goal

pub returns-clause-records : goal.returns-clause-records
returns-clause-records c =
    assumption (coords_read, record_back, read_recorded, records_split, start_recorded, step_stays, recorded_dumps)

pub returns-clause-runs : goal.returns-clause-runs
returns-clause-runs c = assumption (outcomes_keep, one_run, first_records, memory_lacks, dumps_reload)

pub returns-clause-lines : goal.returns-clause-lines
returns-clause-lines c = assumption (single_stay, first_line, one_record, records_of_lines, formless_rejected)
