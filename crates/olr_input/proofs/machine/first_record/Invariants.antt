use Rattle.olr_input.proofs.Common.{◌≡◌, ◌≤◌, ◌-◌, ◌++◌, [], take, drop, next_record, default_config, fields_of, csv_state}
use Rattle.csv.specs.Records.{partial_of}
use Rattle.olr_input.proofs.machine.first_record.Given as goal

-- the first record is the one that the fields so far, the bytes of the next field so far, and the remaining bytes make
abbrev pub invariant-bytes : goal.invariant-bytes
invariant-bytes l =
    (l.start ≤ l.i) × (partial_of l.row ≡ [])
    × (next_record default_config (csv_state l.fn.state) [] [] l.text
    ≡ next_record default_config (csv_state l.state) (fields_of l.row)
    (l.field.items ++ take (l.i - l.start) (drop l.start l.text)) (drop l.i l.text))
