use Rattle.olr_log.proofs.Common.{◌∙◌, ◌<◌, ◌==◌, ◌++◌, ◌∷◌, [], ℕ, length, take, sym, ap, arith, vec_len, length-append}
use Rattle.olr_log.proofs.Common.{if◌then◌else◌, join_with_byte, fields_of, is_clean}
use Rattle.olr_log.proofs.StoredLines.{text_more, clean_more, unclean, lines_stay}
use Rattle.std.proofs.lemmas.Grind.{common_steps}
use Rattle.olr_log.proofs.unstored.push_line.Goals as goal

pub returns-then-not-is_clean-clause-front : goal.returns-then-not-is_clean-clause-front
returns-then-not-is_clean-clause-front c =
    let i : ℕ = c.loop-i.i in
    lines_stay c.args.text.items c.loop-i.text.items (if i == 0 then [] else 44 ∷ []) c.push_bytes-longer.result.0.items
    (vec_len c.args.text) (vec_len c.push_comma-text.result) c.args.text.ok.0
    (c.push_comma-text.result.ok.0 ∙ ap length c.push_comma-text.ensures)
    (join_with_byte 44 (take i (fields_of c.args.fields.now))) c.loop-i.invariant.0
    (c.push_bytes-longer.ensures.front ∙ c.push_comma-text.ensures)

pub returns-then-not-is_clean-clause-clean : goal.returns-then-not-is_clean-clause-clean
returns-then-not-is_clean-clause-clean c =
    let fs = fields_of c.args.fields.now in
    let i : ℕ = c.loop-i.i in
    let less : i < length fs = omega (arith, c.loop-i-test.true, c.len-i-end.ensures) in
    sym (unclean fs i less (sym (ap is_clean c.field-field.ensures) ∙ sym c.push_bytes-longer.ensures.clean
    ∙ c.if-not-is_clean.true))

pub loop-i-preserved : goal.loop-i-preserved
loop-i-preserved c =
    let fs = fields_of c.args.fields.now in
    let i : ℕ = c.loop-i.i in
    let less : i < length fs = omega (arith, c.loop-i-test.true, c.len-i-end.ensures) in
    let added = c.push_bytes-longer.ensures.items c.if-not-is_clean.false in
    let size = ap length added ∙ length-append c.push_comma-text.result.items c.field-field.result.now in (
      added ∙ (λ n. c.push_comma-text.ensures n ++ c.field-field.ensures n)
          ∙ text_more c.args.text.items c.loop-i.text.items fs i less c.loop-i.invariant.0,
      (λ _. omega (arith, size, c.push_bytes-longer.result.0.ok.0, c.push_comma-text.result.ok.0, c.if-capacity-len.false, c.capacity.ensures, c.len.ensures, c.push_bytes-longer.ensures.capacity)),
      clean_more fs i less c.loop-i.invariant.2 (sym (ap is_clean c.field-field.ensures) ∙ sym c.push_bytes-longer.ensures.clean
          ∙ c.if-not-is_clean.false),
    )

pub returns-then-capacity-len-clause-front : goal.returns-then-capacity-len-clause-front
returns-then-capacity-len-clause-front c = grind (arith, common_steps)

pub returns : goal.returns
returns c = grind (arith, common_steps)
