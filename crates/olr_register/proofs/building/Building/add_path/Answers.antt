use Rattle.olr_register.proofs.Common.{◌∙◌, refl, ap, sym, has_name, None, items, map_of, changes_keep, path_by, string_bytes}
use Rattle.olr_register.proofs.Common.{Add_path, No_memory}
use Rattle.olr_register.proofs.Built.{built, not_built}
use Rattle.olr_register.proofs.Changing.{add_refused, add_ok}
use Rattle.olr_register.proofs.building.Building.add_path.Goals as goal

pub hold-requires : goal.hold-requires
hold-requires c =
    ap (has_name (items c.self.inside.paths)) (sym c.deref.ensures) ∙ sym c.has-taken.ensures ∙ c.in_ok-path.ensures.right

pub returns-in_err-path : goal.returns-in_err-path
returns-in_err-path c =
    rw (← c.self.view_is) (not_built c.in_err-path.field-0.0 refl c.from_residual.ensures.1
    (add_refused _ (string_bytes c.args.name) (path_by c.args.parts) c.has-taken.result _
    (c.has-taken.ensures ∙ ap (has_name (items c.self.inside.paths)) c.deref.ensures) c.in_err-path.ensures.fault))

pub invariant_of-self : goal.invariant_of-self
invariant_of-self c = rw c.in_err-hold.ensures.err c.self.invariant

pub returns-in_err-hold : goal.returns-in_err-hold
returns-in_err-hold c =
    rw (← c.self.view_is) (not_built No_memory (rw c.in_err-hold.ensures.err) c.from_residual-in_err-hold.ensures.1
    (add_refused _ (string_bytes c.args.name) (path_by c.args.parts) c.has-taken.result _
    (c.has-taken.ensures ∙ ap (has_name (items c.self.inside.paths)) c.deref.ensures) c.in_ok-path.ensures.lacks))

pub invariant_of-self-2 : goal.invariant_of-self-2
invariant_of-self-2 c =
    let r = c.self.inside in
    let list = rw c.in_ok-path.ensures.ok at c.in_ok-hold.ensures.ok in
    changes_keep _ _ (Add_path (string_bytes c.args.name) (path_by c.args.parts)) c.self.invariant tt
    (rw list (add_ok r.margin (map_of r.roads) (items r.paths) _ _ None
    (ap (has_name (items r.paths)) (sym c.deref.ensures) ∙ sym c.has-taken.ensures ∙ c.in_ok-path.ensures.right)
    c.in_ok-path.ensures.good))

pub returns : goal.returns
returns c =
    let r = c.self.inside in
    let list = rw c.in_ok-path.ensures.ok at c.in_ok-hold.ensures.ok in
    rw (← c.self.view_is) (built (rw list (add_ok r.margin (map_of r.roads) (items r.paths) _ _ None
    (ap (has_name (items r.paths)) (sym c.deref.ensures) ∙ sym c.has-taken.ensures ∙ c.in_ok-path.ensures.right)
    c.in_ok-path.ensures.good)))
