use Rattle.olr_commands.proofs.Common.{Line, fields_of_attributes}
use Rattle.std.proofs.Common.{◌∙◌, ap, rules}
use Rattle.olr_commands.proofs.RecordLemmas.{line_of_three}
use Rattle.olr_commands.proofs.record_text.push_line_record.Goals as goal

pub returns : goal.returns
returns c =
    let l = c.args.line.now in
    let from = c.number-2.ensures.same ∙ ap (λ (k : Line). k.from) c.line.view_is in
    let to = c.number-3.ensures.same ∙ ap (λ (k : Line). k.to) c.line.view_is in
    let written =
    rw (
      c.in_ok-push_attributes.ensures,
      c.in_ok-push_number-3.ensures,
      c.in_ok-push_number-2.ensures,
      c.in_ok-push_number.ensures,
      c.in_ok-extend_from_slice.ensures.items,
      c.number.ensures.same,
      from,
      to,
      line_of_three _ _ _ _ _ (fields_of_attributes l.frc l.fow l.len l.shape),
    ) at c.extend_from_slice-2.ensures.items in
    search rules
