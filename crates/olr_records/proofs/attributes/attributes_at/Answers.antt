use Rattle.olr_records.proofs.Common.{fields_of, ShapePoint, class, shape, rules, ℕ, ◌+◌, ◌<◌, List, drop, length, digits}
use Rattle.olr_records.proofs.LoopLemmas.{at}
use Rattle.olr_records.proofs.PartLemmas.{Part, Never, of_field, made, joins, passed_on}
use Rattle.olr_records.proofs.attributes.attributes_at.Goals as goal

pub returns-in_err-frc : goal.returns-in_err-frc
returns-in_err-frc c =
    let fs = fields_of c.args.fields.now in
    let k : ℕ = c.args.k in
    let all : ℕ → ℕ → ℕ → List ShapePoint → ℕ × ℕ × ℕ × List ShapePoint = λ a b c d. (a, b, c, d) in
    let frc = of_field class (λ n. n) _ (at fs k) c.class.result c.field.ensures c.class.ensures in
    let fow = of_field class (λ n. n) _ (at fs (k + 1)) c.class-2.result c.field-2.ensures c.class-2.ensures in
    let len = of_field (digits 1 1000000) (λ n. n) _ (at fs (k + 2)) c.number-len.result c.field-3.ensures c.number-len.ensures.reads in
    let points : Part (λ ps. 0 < length ps) (λ v. v.items) (shape (drop (k + 3) fs)) c.shape.result =
    record { is = c.shape.ensures } in
    let classes = joins Never c.both-classes.ensures (made Never all frc (λ b never. never)) fow (λ g b never. never)
    (λ a b never. never) in
    let measured = joins Never c.both-measured.ensures classes len (λ g b never. never) (λ a b never. never) in
    passed_on _ c.from_residual.result c.in_err-frc.field-0.0 c.in_err-frc.was (search rules)
    (joins (λ p. 0 < length p.3) c.both.ensures measured points (λ g b never. absurd never) (λ a b some. some))
