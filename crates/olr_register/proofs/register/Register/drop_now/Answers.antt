use Rattle.olr_register.proofs.Common.{refl, sym, ByState}
use Rattle.olr_register.proofs.Singles.{refused_now, drop_bounded, drop_made, right_now, done_now}
use Rattle.olr_register.proofs.register.Register.drop_now.Goals as goal

pub returns-then-not-has : goal.returns-then-not-has
returns-then-not-has c =
    refused_now c.self.inside c.self.view_is c.requires _ refl refl (ByState (rw (← c.if-not-has.ensures)))

pub invariant_of-self : goal.invariant_of-self
invariant_of-self c =
    let r = c.self.inside in
    right_now r c.self.view_is c.requires c.self.invariant
    (drop_made r c.self.view_is c.requires c.self.invariant c.args.name.now c.drop_path.ensures (sym c.if-not-has.ensures))
    (drop_bounded r c.self.view_is c.requires c.self.invariant c.args.name.now c.drop_path.ensures)

pub returns : goal.returns
returns c =
    let r = c.self.inside in
    done_now r c.self.view_is c.requires
    (drop_made r c.self.view_is c.requires c.self.invariant c.args.name.now c.drop_path.ensures (sym c.if-not-has.ensures))
    (rw c.new.ensures.items)
