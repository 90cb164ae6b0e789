use Rattle.olr_register.proofs.Common.{refl, sym, ByContent, Drop_path, items, map_of, changes_keep}
use Rattle.olr_register.proofs.Built.{built, not_built}
use Rattle.olr_register.proofs.Changing.{drop_ok}
use Rattle.olr_register.proofs.building.Building.drop_path.Goals as goal

pub returns-then-not-has : goal.returns-then-not-has
returns-then-not-has c = rw (← c.self.view_is) (not_built _ refl refl (ByContent (rw (← c.if-not-has.ensures))))

pub invariant_of-self : goal.invariant_of-self
invariant_of-self c =
    let r = c.self.inside in
    changes_keep _ _ (Drop_path c.args.name.now) c.self.invariant tt
    (rw c.drop_path.ensures (drop_ok r.margin (map_of r.roads) (items r.paths) _ (sym c.if-not-has.ensures)))

pub returns : goal.returns
returns c =
    let r = c.self.inside in
    rw (← c.self.view_is)
    (built (rw c.drop_path.ensures (drop_ok r.margin (map_of r.roads) (items r.paths) _ (sym c.if-not-has.ensures))))
