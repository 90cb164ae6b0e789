use Rattle.olr_register.proofs.Common.{refl, sym, ap, ◌∙◌, not, not-false, items, path_by, [], No_memory}
use Rattle.olr_register.proofs.Changing.{set_refused}
use Rattle.olr_register.proofs.Singles.{may_refuse_now, bounds_right, sets, right_now, done_now}
use Rattle.olr_register.proofs.register.Register.set_now.Goals as goal

pub returns-in_err-path : goal.returns-in_err-path
returns-in_err-path c =
    may_refuse_now c.self.inside c.self.view_is c.requires c.in_err-path.field-0.0 refl c.from_residual.ensures.1 refl
    (set_refused _ c.args.name.now (path_by c.args.parts) (not c.has-missing.result) _ (ap not c.has-missing.ensures)
    c.in_err-path.ensures.fault)

pub returns-in_err-renewed : goal.returns-in_err-renewed
returns-in_err-renewed c =
    may_refuse_now c.self.inside c.self.view_is c.requires No_memory (rw c.in_err-renewed.ensures.err c.self.view_is)
    c.from_residual-in_err-renewed.ensures.1 refl
    (set_refused _ c.args.name.now (path_by c.args.parts) (not c.has-missing.result) _ (ap not c.has-missing.ensures)
    c.in_ok-path.ensures.lacks)

pub invariant_of-self-2 : goal.invariant_of-self-2
invariant_of-self-2 c =
    let r = c.self.inside in
    let e = c.in_ok-renewed.ensures.set in
    right_now r c.self.view_is c.requires c.self.invariant
    (sets r c.self.view_is c.requires c.self.invariant e
    (sym c.has-missing.ensures ∙ not-false c.has-missing.result c.in_ok-path.ensures.right)
    (rw c.in_ok-path.ensures.ok c.in_ok-path.ensures.good))
    (c.renew_bounds.ensures r.roads [] (items r.paths) (bounds_right r c.self.view_is c.requires c.self.invariant) e.queries)

pub returns : goal.returns
returns c =
    let r = c.self.inside in
    rw (← c.in_ok-path.ensures.ok, c.plus-self-inside.ensures)
    (done_now r c.self.view_is c.requires (sets r c.self.view_is c.requires c.self.invariant
    c.in_ok-renewed.ensures.set (sym c.has-missing.ensures ∙ not-false c.has-missing.result c.in_ok-path.ensures.right)
    (rw c.in_ok-path.ensures.ok c.in_ok-path.ensures.good)) refl)
