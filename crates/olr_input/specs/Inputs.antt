-- The records of an input: those that csv reads from its bytes, or one for each of its lines.
--     input_records single known      those of an input whose bytes are known
--     InputLeft remaining i rs      these records are left of a source
use Rattle.std.specs.Prelude.{ℕ, Bool, if◌then◌else◌, List, Option, option_map}
use Rattle.csv.specs.Reading.{has_failed}
use Rattle.olr_input.specs.Blocks.{input_left}
use Rattle.olr_input.specs.LineRecords.{line_records, lines_left}
use Rattle.olr_input.specs.Sessions.{Known, csv_left, csv_records}
use Rattle.olr_input.specs.declared.inputs.Input.{Input}
use Rattle.olr_input.specs.declared.inputs.Input.TheVariants as input

abbrev pub input_records : Bool → Known → Option (List (List (List ℕ)))
input_records single known = option_map (λ bytes. if single then line_records bytes else csv_records bytes) known

abbrev pub InputLeft : {R : Type 0} → (R → Known) → Input R → List (List (List ℕ)) → Type 0
InputLeft remaining (input.Csv s) rs = csv_left (input_left remaining) s.reader rs
InputLeft remaining (input.Lines s) rs = lines_left remaining s rs

abbrev pub input_failed : {R : Type 0} → Input R → Bool
input_failed (input.Csv s) = has_failed s.reader
input_failed (input.Lines s) = s.failed
