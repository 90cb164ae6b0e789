use Rattle.olr_register.proofs.Common.{◌∙◌, refl, ap, sym, not, not-false, Set_path, None, items, map_of, changes_keep, path_by}
use Rattle.olr_register.proofs.Common.{No_memory}
use Rattle.olr_register.proofs.Built.{built, not_built}
use Rattle.olr_register.proofs.Changing.{set_refused, set_ok}
use Rattle.olr_register.proofs.building.Building.set_path.Goals as goal

pub hold_other-requires : goal.hold_other-requires
hold_other-requires c = sym c.has-missing.ensures ∙ not-false c.has-missing.result c.in_ok-path.ensures.right

pub returns-in_err-path : goal.returns-in_err-path
returns-in_err-path c =
    rw (← c.self.view_is) (not_built c.in_err-path.field-0.0 refl c.from_residual.ensures.1
    (set_refused _ c.args.name.now (path_by c.args.parts) (not c.has-missing.result) _ (ap not c.has-missing.ensures)
    c.in_err-path.ensures.fault))

pub invariant_of-self : goal.invariant_of-self
invariant_of-self c = rw c.in_err-hold_other.ensures.err c.self.invariant

pub returns-in_err-hold_other : goal.returns-in_err-hold_other
returns-in_err-hold_other c =
    rw (← c.self.view_is) (not_built No_memory (rw c.in_err-hold_other.ensures.err) c.from_residual-in_err-hold_other.ensures.1
    (set_refused _ c.args.name.now (path_by c.args.parts) (not c.has-missing.result) _ (ap not c.has-missing.ensures)
    c.in_ok-path.ensures.lacks))

pub invariant_of-self-2 : goal.invariant_of-self-2
invariant_of-self-2 c =
    let r = c.self.inside in
    let list = rw c.in_ok-path.ensures.ok at c.in_ok-hold_other.ensures.ok in
    changes_keep _ _ (Set_path c.args.name.now (path_by c.args.parts)) c.self.invariant tt
    (rw list (set_ok r.margin (map_of r.roads) (items r.paths) _ _ None
    (sym c.has-missing.ensures ∙ not-false c.has-missing.result c.in_ok-path.ensures.right) c.in_ok-path.ensures.good))

pub returns : goal.returns
returns c =
    let r = c.self.inside in
    let list = rw c.in_ok-path.ensures.ok at c.in_ok-hold_other.ensures.ok in
    rw (← c.self.view_is) (built (rw list (set_ok r.margin (map_of r.roads) (items r.paths) _ _ None
    (sym c.has-missing.ensures ∙ not-false c.has-missing.result c.in_ok-path.ensures.right) c.in_ok-path.ensures.good)))
