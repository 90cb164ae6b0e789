use Rattle.olr_input.proofs.Common.{◌+◌, ◌∙◌, ap, sym, true}
use Rattle.olr_input.specs.Lines.{has_line}
use Rattle.olr_input.proofs.WholeLines.{begins_at, line_found, no_line}
use Rattle.olr_input.proofs.Writing.{rest_is}
use Rattle.olr_input.proofs.lines.begins_with_line.Goals as goal

pub returns-then-begin-last : goal.returns-then-begin-last
returns-then-begin-last c =
    let n = c.empty_lines_length-count.result in
    sym (begins_at c.args.bytes.now c.args.start n c.empty_lines_length-count.ensures.line
    ∙ c.requires.known.each (c.args.start + n) c.if-begin-last.true)

pub returns-in-Some : goal.returns-in-Some
returns-in-Some c =
    let n = c.empty_lines_length-count.result in
    sym (line_found _ c.in-Some.i c.in-Some.ensures) ∙ ap (has_line true) (rest_is c.args.bytes.now (c.args.start + n))
    ∙ sym (begins_at c.args.bytes.now c.args.start n c.empty_lines_length-count.ensures.line)

pub returns-in-None : goal.returns-in-None
returns-in-None c =
    let n = c.empty_lines_length-count.result in
    sym (no_line _ c.in-None.ensures) ∙ ap (has_line true) (rest_is c.args.bytes.now (c.args.start + n))
    ∙ sym (begins_at c.args.bytes.now c.args.start n c.empty_lines_length-count.ensures.line)
