use Rattle.olr_register.proofs.Common.{[], items, under_overlay, to_renew_by}
use Rattle.olr_register.proofs.Bounded.{can_renew, settled_bounds}
use Rattle.olr_register.proofs.bounds.renew.Goals as goal

pub renew_over-requires : goal.renew_over-requires
renew_over-requires c =
    can_renew c.args.update.now _ _ (items c.args.paths.now) c.args.overlay.now c.requires c.make_right_after.ensures

pub returns-then-update-clause-bounded : goal.returns-then-update-clause-bounded
returns-then-update-clause-bounded c = c.bounds_from_scratch.ensures c.args.update.now.map.now []

pub returns-else-update-clause-bounded : goal.returns-else-update-clause-bounded
returns-else-update-clause-bounded c =
    c.renew_bounds.ensures c.args.update.now.map.now []
    (to_renew_by c.args.update.now (under_overlay (items c.args.paths.now) c.args.overlay.now))
    (rw c.renew_over.ensures.bounds (settled_bounds (c.make_right_after.ensures _ c.requires.bounded))) c.in-Ok.ensures.queries
