use Rattle.olr_run.proofs.Dumped.{dumped_records, only_dumped}
use Rattle.olr_run.proofs.answers.records_text.Goals as goal

pub returns-in-Dump-clause-records : goal.returns-in-Dump-clause-records
returns-in-Dump-clause-records c = λ s represents.
    let o = (rw c.in-Dump.is at c.in_ok-dump.ensures.outcome) s represents in
    dumped_records s o.0 c.in-Dump.dump.count c.in-Dump.dump.text.items o.2

pub returns-clause-refused : goal.returns-clause-refused
returns-clause-refused c = λ s represents.
    let o = c.in_ok-dump.ensures.outcome s represents in
    absurd (only_dumped s o.0 c.in_ok-dump.field-0 o.2 c.in_default.not-Dump)
