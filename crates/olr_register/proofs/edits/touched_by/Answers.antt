use Rattle.olr_register.proofs.Common.{◌∙◌}
use Rattle.olr_register.proofs.Touched.{touched_plan}
use Rattle.olr_register.proofs.edits.touched_by.Goals as goal

pub returns : goal.returns
returns c = λ M slot e plan.
    let r = c.reserve.ensures in
    let s = c.new-touched.ensures in
    let n = c.add.ensures in
    touched_plan M slot e c.args.plan.now c.reserve.new.self c.add.new.self plan (r.nodes ∙ s.nodes) (r.lines ∙ s.lines)
    (r.changed ∙ s.changed) n.nodes n.lines n.changed
