use Rattle.olr_input.proofs.Common.{fields_of, input_left}
use Rattle.olr_input.proofs.SessionLemmas.{read_left}
use Rattle.olr_input.proofs.sources.RecordsSource.next.Goals as goal

pub returns-in-Ok : goal.returns-in-Ok
returns-in-Ok g c =
    let s = c.args.self.now in
    let r = c.in-Ok.ensures in
    read_left (input_left g.R.Read.remaining) s.reader c.read_byte_record.new.self c.in-Ok.found
    (fields_of c.read_byte_record.new.row) s.plain r.goes (λ e. let same = r.failed e in cc) r.reads
