use Rattle.olr_register.proofs.Common.{items, under_overlay, after_renewal, to_renew_by}
use Rattle.olr_register.proofs.Bounded.{can_renew, settled_bounds}
use Rattle.olr_register.proofs.bounds.preview.Goals as goal

pub renewal_over-requires : goal.renewal_over-requires
renewal_over-requires c =
    can_renew c.args.update.now _ _ (items c.args.paths.now) c.args.overlay.now c.requires c.make_right_after.ensures

pub returns-clause-renewed : goal.returns-clause-renewed
returns-clause-renewed c =
    let ls = to_renew_by c.args.update.now (under_overlay (items c.args.paths.now) c.args.overlay.now) in
    (after_renewal c.in_ok-new_results.new_results.renewal ls, c.in_ok-new_results.ensures.renewed)

pub returns-clause-bounded : goal.returns-clause-bounded
returns-clause-bounded c = λ T is h. rw c.renewal_over.ensures.bounds (settled_bounds (c.make_right_after.ensures is h))

pub returns-in_err-new_results-clause-bounded : goal.returns-in_err-new_results-clause-bounded
returns-in_err-new_results-clause-bounded c = λ T is h.
    rw c.renewal_over.ensures.bounds (settled_bounds (c.make_right_after.ensures is h))
