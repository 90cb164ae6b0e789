use Rattle.olr_records.proofs.Common.{fields_of, ShapePoint, attributes, line_between, HoldsList, LineAttributes, common_steps}
use Rattle.olr_records.proofs.Common.{Line, Edit, Add_line, Make, On_map, number, rules, arith, ℕ, ◌<◌, List, drop, length}
use Rattle.olr_records.proofs.LoopLemmas.{at}
use Rattle.olr_records.proofs.PartLemmas.{Part, Never, of_field, made, joins, passed_on}
use Rattle.olr_records.proofs.FormLemmas.{line-record}
use Rattle.olr_records.proofs.edits.add_line.Goals as goal

pub returns-in_err-id : goal.returns-in_err-id
returns-in_err-id c =
    let fs = fields_of c.args.fields.now in
    let add : ℕ → Line → Edit = λ x l. Add_line x l in
    let between : ℕ → ℕ → ℕ × ℕ × ℕ × List ShapePoint → Line = λ a b c. line_between a b c.0 c.1 c.2 c.3 in
    let from = of_field number (λ n. n) _ (at fs 2) c.node_id.result c.field.ensures c.node_id.ensures in
    let to = of_field number (λ n. n) _ (at fs 3) c.node_id-2.result c.field-2.ensures c.node_id-2.ensures in
    let id = of_field number (λ n. n) _ (at fs 1) c.line_id.result c.field-3.ensures c.line_id.ensures in
    let rest : Part {B = ℕ × ℕ × ℕ × List ShapePoint} (λ p. 0 < length p.3) (λ (k : LineAttributes). (k.frc, k.fow, k.len, k.shape.items))
    (attributes (at fs 4) (at fs 5) (at fs 6) (drop 7 fs)) c.attributes_at.result = record { is = c.attributes_at.ensures } in
    let ends = joins Never c.both-ends.ensures (made Never between from (λ b never. never)) to (λ g b never. never)
    (λ a b never. never) in
    let line = joins (λ l. 0 < length l.shape) c.both-line.ensures ends rest (λ g b never. absurd never) (λ a b some. some) in
    let edit = joins (λ e. HoldsList (Make (On_map e))) c.both.ensures (made Never add id (λ b never. never)) line
    (λ g b never. absurd never) (λ a b some. some) in
    rw (line-record fs (omega arith))
    (passed_on _ c.from_residual.result c.in_err-id.field-0.0 c.in_err-id.was (search rules)
    (made HoldsList (λ e. Make (On_map e)) edit (λ e h. h)))

pub returns : goal.returns
returns c = grind (arith, common_steps)
