use Rattle.olr_records.proofs.Common.{⊤, length-drop, fields_of, ShapePoint, Read, point, shape, Gathers, Reads, rules, List, ℕ}
use Rattle.olr_records.proofs.Common.{◌+◌, ◌<◌, ◌≤◌, drop, length, subst, arith, refl}
use Rattle.olr_records.proofs.LoopLemmas.{nothing-onto, gathers-only, some-points, shape-more, shape-over, at_end, with, at}
use Rattle.olr_records.proofs.attributes.shape.Goals as goal

pub loop-k-init : goal.loop-k-init
loop-k-init c = search (rules, arith, nothing-onto)

pub loop-k-preserved : goal.loop-k-preserved
loop-k-preserved c =
    let fs = fields_of c.args.fields.now in
    let k : ℕ = c.loop-k.k in
    let x = c.loop-k.invariant.gathered.0 in
    let one = point (at fs k) (at fs (k + 1)) (at fs (k + 2)) in
    let few : k + 3 ≤ length fs = omega arith in
    let read = subst (λ (q : Read ShapePoint). Reads (λ p. p) q c.shape_point-point.result)
    (λ i. point (c.field.ensures i) (c.field-in-loop-k.ensures i) (c.field-in-loop-k-2.ensures i))
    c.shape_point-point.ensures
    in
    record {
      within = few;
      gathered = (
        with x one,
        c.with_item-points.ensures x one c.loop-k.invariant.gathered.1 read,
        shape-more fs k x (shape (drop c.args.start fs)) few c.loop-k.invariant.gathered.2,
      );
    }

pub returns-then-k-len : goal.returns-then-k-len
returns-then-k-len c =
    let fs = fields_of c.args.fields.now in
    shape-over fs c.loop-k.k c.loop-k.invariant.gathered.0 (shape (drop c.args.start fs)) (omega arith) (omega arith)
    c.loop-k.invariant.gathered.2

pub returns : goal.returns
returns c =
    let fs = fields_of c.args.fields.now in
    let whole = shape (drop c.args.start fs) in
    let read = subst (λ (x : Read (List ShapePoint)). Gathers (λ _. ⊤) (λ v. v.items) x c.loop-k.points)
    (at_end fs c.loop-k.k shape c.loop-k.invariant.gathered.0 whole refl (omega arith) c.loop-k.invariant.gathered.2)
    c.loop-k.invariant.gathered.1
    in
    gathers-only (λ _. ⊤) (λ ps. 0 < length ps) (λ v. v.items) whole c.loop-k.points
    (some-points (drop c.args.start fs) (omega (arith, length-drop c.args.start fs))) read
