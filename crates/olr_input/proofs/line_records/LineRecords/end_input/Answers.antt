use Rattle.olr_input.proofs.Common.{ℕ, List, false, refl, subst, if_any, unmarked, fields_of}
use Rattle.olr_input.proofs.LinesRead.{Finds, last_steps}
use Rattle.olr_input.proofs.line_records.LineRecords.end_input.Goals as goal

pub returns : goal.returns
returns g c =
    let s = c.args.self.now in
    let fields = fields_of c.read_line.new.row in
    last_steps g.R.Read.remaining s
    (record {
      source = s.source;
      is_first = false;
      line = c.clear.new.self;
      field = c.read_line.new.field;
      failed = s.failed;
    }) c.in_ok-found.found fields c.requires.one c.requires.end
    (subst (λ (l : List ℕ). Finds (if_any (unmarked s.is_first l)) c.in_ok-found.found fields) c.as_slice.ensures.value
    c.in_ok-found.ensures) refl refl
