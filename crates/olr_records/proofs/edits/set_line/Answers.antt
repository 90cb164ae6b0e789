use Rattle.olr_records.proofs.Common.{fields_of, ShapePoint, Edit, Set_line, Make, On_map, number, attributes, HoldsList}
use Rattle.olr_records.proofs.Common.{LineAttributes, rules, arith, ℕ, ◌<◌, List, drop, length}
use Rattle.olr_records.proofs.LoopLemmas.{at}
use Rattle.olr_records.proofs.PartLemmas.{Part, Never, of_field, made, joins, passed_on}
use Rattle.olr_records.proofs.FormLemmas.{set-line-record}
use Rattle.olr_records.proofs.edits.set_line.Goals as goal

pub returns-in_err-id : goal.returns-in_err-id
returns-in_err-id c =
    let fs = fields_of c.args.fields.now in
    let set : ℕ → ℕ × ℕ × ℕ × List ShapePoint → Edit = λ x c. Set_line x c.0 c.1 c.2 c.3 in
    let id = of_field number (λ n. n) _ (at fs 1) c.line_id.result c.field.ensures c.line_id.ensures in
    let rest : Part {B = ℕ × ℕ × ℕ × List ShapePoint} (λ p. 0 < length p.3) (λ (k : LineAttributes). (k.frc, k.fow, k.len, k.shape.items))
    (attributes (at fs 2) (at fs 3) (at fs 4) (drop 5 fs)) c.attributes_at.result = record { is = c.attributes_at.ensures } in
    let edit = joins (λ e. HoldsList (Make (On_map e))) c.both.ensures (made Never set id (λ b never. never)) rest
    (λ g b never. absurd never) (λ a b some. some) in
    rw (set-line-record fs (omega arith))
    (passed_on _ c.from_residual.result c.in_err-id.field-0.0 c.in_err-id.was (search rules)
    (made HoldsList (λ e. Make (On_map e)) edit (λ e h. h)))
