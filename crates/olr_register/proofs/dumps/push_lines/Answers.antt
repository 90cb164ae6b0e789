use Rattle.olr_register.proofs.Common.{◌≡◌, ◌++◌, Line, false, Option, is_some, true, has_line, line_at, map_of, subst, sym, ◌∙◌}
use Rattle.olr_register.proofs.Common.{ap, option_copied, unwrap_or, no_line, append-nil, ℕ, IsTrue, record_line, line_change}
use Rattle.olr_register.proofs.DumpTexts.{shapes_pass, records_next, records_all}
use Rattle.olr_register.proofs.dumps.push_lines.Goals as goal

pub unreachable-requires : goal.unreachable-requires
unreachable-requires c =
    let there : has_line (map_of c.args.roads.now) c.id-item.result ≡ true =
    subst (λ (x : ℕ). IsTrue (has_line (map_of c.args.roads.now) x)) (sym c.id-item.is)
    (c.requires.there c.loop-id.id-index c.id-item.result c.loop-id-test.true) in
    let lacks : has_line (map_of c.args.roads.now) c.id-item.result ≡ false =
    ap (λ (o : Option Line). is_some o) (sym c.line.ensures ∙ ap option_copied c.in_default.is) in
    cc (there, lacks)

pub push_line_record-requires : goal.push_line_record-requires
push_line_record-requires c =
    let line : line_at (map_of c.args.roads.now) c.id-item.result ≡ c.in-Some.line.now =
    ap (λ (o : Option Line). unwrap_or o no_line) (sym c.line.ensures ∙ ap option_copied c.in-Some.is) in
    rw (← line) (shapes_pass (map_of c.args.roads.now) c.requires.recordable c.id-item.result)

pub loop-id-preserved : goal.loop-id-preserved
loop-id-preserved c =
    let x = c.id-item.result in
    let line : c.in-Some.line.now ≡ line_at (map_of c.args.roads.now) x =
    sym (ap (λ (o : Option Line). unwrap_or o no_line) (sym c.line.ensures ∙ ap option_copied c.in-Some.is)) in
    records_next (λ y. record_line (line_change (y, line_at (map_of c.args.roads.now) y))) _ _ c.args.text.now.items
    c.args.ids.now c.loop-id.id-index x c.loop-id-test.true c.id-item.is c.loop-id.invariant
    (c.in_ok-push_line_record.ensures
    ∙ ap (λ (l : Line). c.loop-id.text.items ++ record_line (line_change (x, l))) line)

pub loop-id-init : goal.loop-id-init
loop-id-init c = sym (append-nil c.args.text.now.items)

pub returns : goal.returns
returns c =
    records_all (λ x. record_line (line_change (x, line_at (map_of c.args.roads.now) x))) _ c.args.text.now.items
    c.args.ids.now c.loop-id.id-index c.loop-id-test.false c.loop-id.invariant
