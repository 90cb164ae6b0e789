use Rattle.olr_refs.proofs.Common.{◌≡◌, ◌+◌, ℕ, List, [], ◌∷◌, ◌++◌, take, sym, ap, ◌∙◌, arith, Middle, legs, middle_points_of}
use Rattle.olr_refs.proofs.Common.{common_steps}
use Rattle.olr_refs.proofs.PointLemmas.{middle_more}
use Rattle.olr_refs.proofs.lrp_fields.middle_points.Goals as goal

pub loop-k-preserved : goal.loop-k-preserved
loop-k-preserved g c =
    let gs = legs (g.M.MapRead.map c.args.resolved.now.map.now) c.args.resolved.now.lines.now in
    let k = c.loop-k.k in
    let on : k + 2 ≡ k + 1 + 1 = omega arith in
    c.in_ok-push.ensures.items ∙ ap (λ (ps : List Middle). ps ++ c.middle_point-point.result ∷ []) c.loop-k.invariant
    ∙ ap (λ (p : Middle). middle_points_of c.args.resolved.now.margin gs (take (k + 1) c.args.points.now) ++ p ∷ []) c.middle_point-point.ensures
    ∙ sym (middle_more c.args.resolved.now.margin gs c.args.points.now k (omega arith) (omega arith))
    ∙ ap (λ (n : ℕ). middle_points_of c.args.resolved.now.margin gs (take n c.args.points.now)) on

pub returns : goal.returns
returns g c = grind (arith, common_steps)
