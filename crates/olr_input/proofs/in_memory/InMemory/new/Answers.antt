use Rattle.olr_input.proofs.Common.{ℕ, List, sym, subst, csv_records}
use Rattle.csv.specs.declared.parser.State.TheVariants as st
use Rattle.olr_input.proofs.CsvRecords.{Are, all_records}
use Rattle.olr_input.proofs.in_memory.InMemory.new.Goals as goal

pub returns-clause-left : goal.returns-clause-left
returns-clause-left c =
    subst (λ (xs : List ℕ). Are st.StartRecord xs (csv_records c.args.bytes.now)) (sym c.without_mark.ensures)
    (all_records c.args.bytes.now)
