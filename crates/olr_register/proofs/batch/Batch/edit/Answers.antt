use Rattle.olr_register.proofs.Common.{refl, edit_of, content_under, nodes_of, ByContent, No_memory}
use Rattle.olr_register.proofs.Bounded.{under_way_stays}
use Rattle.olr_register.proofs.Changing.{edit_refused, edit_lacks}
use Rattle.olr_register.proofs.Making.{without_answer, edit_made}
use Rattle.olr_register.proofs.batch.Batch.edit.Goals as goal

pub returns-in-Err : goal.returns-in-Err
returns-in-Err c = λ is.
    without_answer _ refl (λ h. c.requires) refl refl refl refl refl refl (λ f h. h)
    (ByContent (edit_refused (content_under c.args.roads.now is c.args.self.now) _ c.in-Err.fault c.in-Err.ensures.fault))

pub returns-in_err-reserve : goal.returns-in_err-reserve
returns-in_err-reserve c = λ is.
    let t = c.reserve.ensures in
    without_answer No_memory c.from_residual.ensures.1 (λ h. c.requires) refl refl refl t.nodes t.lines t.changed (λ f h. h)
    (edit_lacks (content_under c.args.roads.now is c.args.self.now) _ c.in-Ok.ensures.plan.accepted)

pub returns : goal.returns
returns c = λ is.
    let j = c.in-Ok.ensures.plan in
    let s = c.reserve.ensures in
    let t = c.add.ensures in
    let m = c.make_into.ensures in
    edit_made c.args.roads.now c.make_into.new.self is c.args.self.now c.make_into.new.log c.add.new.self
    (edit_of c.args.edit) m.can_undo m.before c.in_ok-make_into.ensures.done m.slots j.placed
    (λ v. rw (j.nodes v, ← s.nodes) (t.nodes v)) (λ y. rw (← j.lines, ← s.lines) (t.lines y))
    (rw (← j.changes, ← s.changed) t.changed)

pub returns-in_err-make_into : goal.returns-in_err-make_into
returns-in_err-make_into c = λ is.
    let b = c.args.self.now in
    let t = c.reserve.ensures in
    let m = c.make_into.ensures in
    without_answer No_memory c.from_residual-in_err-make_into.ensures.1 (λ h. m.can_undo) m.before c.in_err-make_into.ensures.same refl t.nodes t.lines t.changed
    (under_way_stays c.args.roads.now c.make_into.new.self m.slots c.in_err-make_into.ensures.same (nodes_of b.touched))
    (edit_lacks (content_under c.args.roads.now is b) _ c.in-Ok.ensures.plan.accepted)
