use Rattle.olr_register.proofs.Common.{refl, Set_margin, changes_keep}
use Rattle.olr_register.proofs.Built.{built}
use Rattle.olr_register.proofs.building.Building.set_margin.Goals as goal

pub invariant_of-self : goal.invariant_of-self
invariant_of-self c = changes_keep _ _ (Set_margin c.args.margin) c.self.invariant c.routes-routes.ensures.margin refl

pub returns : goal.returns
returns c = rw (← c.self.view_is) (built refl)
