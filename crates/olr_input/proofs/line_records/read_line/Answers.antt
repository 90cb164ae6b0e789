use Rattle.olr_input.proofs.Common.{◌≡◌, ◌≢◌, ◌≤◌, ◌∙◌, List, ℕ, [], ◌∷◌, arith, fields_of, if_any, length, map, rules, subst, sym}
use Rattle.olr_input.proofs.Common.{HasNoEnd}
use Rattle.olr_input.specs.LineRecords.{line_record, most_in_line}
use Rattle.olr_input.proofs.LinesRead.{no_end_unmarked, read_one}
use Rattle.olr_input.proofs.line_records.read_line.Goals as goal

pub returns : goal.returns
returns c =
    let line = c.line_bytes-line.result.now in
    let fields = fields_of c.first_record.new.row in
    let is = c.line_bytes-line.ensures in
    let some : line ≢ [] = search rules in
    let clean = subst HasNoEnd (sym is) (no_end_unmarked c.args.is_first c.args.line.now c.requires) in
    let short : length line ≤ most_in_line = omega (arith, c.if-line-gt-MOST_IN_LINE.false) in
    subst (λ (l : List ℕ). map line_record (if_any l) ≡ fields ∷ []) is
    (read_one line fields c.in_ok-first_record.field-0 c.in_ok-first_record.ensures some clean short
    (sym c.ends_open.ensures ∙ c.if-ends_open.false))
