use Rattle.olr_input.proofs.Common.{ℕ, List, take, ap, false, refl, subst, fields_of}
use Rattle.olr_input.proofs.LinesRead.{Kept, line_steps}
use Rattle.olr_input.proofs.line_records.LineRecords.end_line.Goals as goal

pub returns : goal.returns
returns g c =
    let s = c.args.self.now in
    let fields = fields_of c.read_end.new.row in
    let k = c.in_ok-found.ensures in
    let keeps = subst (λ (l : List ℕ). Kept s.line.items (take c.args.end l) k.0) c.block.ensures k.1 in
    line_steps g.R.Read.remaining s
    (record {
      source = c.consume.new.self;
      is_first = false;
      line = c.clear.new.self;
      field = c.read_end.new.field;
      failed = s.failed;
    }) c.in_ok-found.found fields k.0 c.args.end c.requires.one c.requires.within c.requires.part c.requires.end keeps k.2
    refl c.clear.ensures.items c.consume.ensures.block (ap g.R.Read.remaining c.consume.ensures.input)
