use Rattle.olr_register.proofs.Common.{refl, ap, On_map, content_on, edit_of, items, map_of, with_map, changes_keep, ByContent}
use Rattle.olr_register.proofs.Common.{No_memory}
use Rattle.olr_register.proofs.Built.{built, not_built}
use Rattle.olr_register.proofs.Changing.{edit_refused, edit_lacks}
use Rattle.olr_register.proofs.building.Building.edit.Goals as goal

pub returns-in-Err : goal.returns-in-Err
returns-in-Err c =
    let r = c.self.inside in
    rw (← c.self.view_is) (not_built _ refl refl
    (ByContent (edit_refused (content_on r.margin (map_of r.roads) (items r.paths)) _ c.in-Err.fault c.in-Err.ensures.fault)))

pub invariant_of-self : goal.invariant_of-self
invariant_of-self c = rw c.in_err-make_kept.ensures.same c.self.invariant

pub returns-in_err-make_kept : goal.returns-in_err-make_kept
returns-in_err-make_kept c =
    let r = c.self.inside in
    rw (← c.self.view_is) (not_built No_memory (rw c.in_err-make_kept.ensures.same) c.from_residual.ensures.1
    (edit_lacks (content_on r.margin (map_of r.roads) (items r.paths)) _ c.in-Ok.ensures.plan.accepted))

pub invariant_of-self-2 : goal.invariant_of-self-2
invariant_of-self-2 c =
    let r = c.self.inside in
    changes_keep _ _ (On_map (edit_of c.args.edit)) c.self.invariant c.in-Ok.ensures.plan.placed
    (ap (with_map (content_on r.margin (map_of r.roads) (items r.paths))) c.in_ok-make_kept.ensures.done)

pub returns : goal.returns
returns c =
    let r = c.self.inside in
    rw (← c.self.view_is)
    (built (ap (with_map (content_on r.margin (map_of r.roads) (items r.paths))) c.in_ok-make_kept.ensures.done))
