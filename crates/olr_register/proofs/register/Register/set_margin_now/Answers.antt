use Rattle.olr_register.proofs.Common.{refl, items, No_memory, Lacks_memory}
use Rattle.olr_register.proofs.Bounded.{bounded_invalid}
use Rattle.olr_register.proofs.Singles.{refused_now, same_right, margin_requires, margin_made, right_now, done_now}
use Rattle.olr_register.proofs.register.Register.set_margin_now.Goals as goal

pub renew-requires : goal.renew-requires
renew-requires c =
    rw (c.new-none.ensures (items c.self.inside.paths)) (margin_requires c.self.inside c.self.view_is c.requires
    c.self.invariant c.args.margin c.routes-routes.ensures.margin c.new-touched.result c.new-touched.ensures.nodes c.new-touched.ensures.changed)

pub invariant_of-self : goal.invariant_of-self
invariant_of-self c =
    let e = c.in_err-renewed.ensures in
    same_right c.self.inside c.self.view_is c.requires c.self.invariant refl e.err (bounded_invalid e.invalid)

pub returns-in_err-renewed : goal.returns-in_err-renewed
returns-in_err-renewed c =
    refused_now c.self.inside c.self.view_is c.requires No_memory (rw c.in_err-renewed.ensures.err c.self.view_is)
    c.from_residual.ensures.1 (Lacks_memory refl refl)

pub invariant_of-self-2 : goal.invariant_of-self-2
invariant_of-self-2 c =
    let r = c.self.inside in
    let e = c.in_ok-renewed.ensures in
    right_now r c.self.view_is c.requires c.self.invariant
    (margin_made r c.self.view_is c.requires c.self.invariant c.routes-routes.ensures.margin c.new-touched.ensures.changed
    (rw (c.new-none.ensures (items r.paths)) at e.renewed)) e.bounded

pub returns : goal.returns
returns c =
    let r = c.self.inside in
    rw c.plus-self-inside.ensures
    (done_now r c.self.view_is c.requires
    (margin_made r c.self.view_is c.requires c.self.invariant c.routes-routes.ensures.margin c.new-touched.ensures.changed
    (rw (c.new-none.ensures (items r.paths)) at c.in_ok-renewed.ensures.renewed)) refl)
