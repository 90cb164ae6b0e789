use Rattle.olr_register.proofs.Common.{◌≡◌, [], false, refl, sym, ap, ◌∙◌, items, has_name, path_by, string_bytes, No_memory}
use Rattle.olr_register.proofs.Changing.{add_refused}
use Rattle.olr_register.proofs.Singles.{may_refuse_now, bounds_right, adds, right_now, done_now}
use Rattle.olr_register.proofs.register.Register.add_now.Goals as goal

pub add-requires : goal.add-requires
add-requires c =
    ap (has_name (items c.self.inside.paths)) (sym c.deref.ensures) ∙ sym c.has-taken.ensures ∙ c.in_ok-path.ensures.right

pub returns-in_err-path : goal.returns-in_err-path
returns-in_err-path c =
    may_refuse_now c.self.inside c.self.view_is c.requires c.in_err-path.field-0.0 refl c.from_residual.ensures.1 refl
    (add_refused _ (string_bytes c.args.name) (path_by c.args.parts) c.has-taken.result _
    (c.has-taken.ensures ∙ ap (has_name (items c.self.inside.paths)) c.deref.ensures) c.in_err-path.ensures.fault)

pub returns-in_err-renewed : goal.returns-in_err-renewed
returns-in_err-renewed c =
    may_refuse_now c.self.inside c.self.view_is c.requires No_memory (rw c.in_err-renewed.ensures.err c.self.view_is)
    c.from_residual-in_err-renewed.ensures.1 refl
    (add_refused _ (string_bytes c.args.name) (path_by c.args.parts) c.has-taken.result _
    (c.has-taken.ensures ∙ ap (has_name (items c.self.inside.paths)) c.deref.ensures) c.in_ok-path.ensures.lacks)

pub invariant_of-self-2 : goal.invariant_of-self-2
invariant_of-self-2 c =
    let r = c.self.inside in
    let e = c.in_ok-renewed.ensures.added in
    let free : has_name (items r.paths) (string_bytes c.args.name) ≡ false =
    ap (has_name (items r.paths)) (sym c.deref.ensures) ∙ sym c.has-taken.ensures ∙ c.in_ok-path.ensures.right in
    right_now r c.self.view_is c.requires c.self.invariant
    (adds r c.self.view_is c.requires c.self.invariant e free (rw c.in_ok-path.ensures.ok c.in_ok-path.ensures.good))
    (c.renew_bounds.ensures r.roads [] (items r.paths) (bounds_right r c.self.view_is c.requires c.self.invariant) e.queries)

pub returns : goal.returns
returns c =
    let r = c.self.inside in
    let free : has_name (items r.paths) (string_bytes c.args.name) ≡ false =
    ap (has_name (items r.paths)) (sym c.deref.ensures) ∙ sym c.has-taken.ensures ∙ c.in_ok-path.ensures.right in
    rw (← c.in_ok-path.ensures.ok, c.plus-self-inside.ensures)
    (done_now r c.self.view_is c.requires (adds r c.self.view_is c.requires c.self.invariant
    c.in_ok-renewed.ensures.added free (rw c.in_ok-path.ensures.ok c.in_ok-path.ensures.good)) refl)
