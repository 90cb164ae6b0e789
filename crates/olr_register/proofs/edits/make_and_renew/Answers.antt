use Rattle.olr_register.proofs.Common.{◌∙◌, edit_of, items, map_of, nodes_of}
use Rattle.olr_register.proofs.Bounded.{bounded_invalid, bounds_edited, bounds_stay, is_edit}
use Rattle.olr_register.proofs.Touched.{can_edit}
use Rattle.olr_register.proofs.edits.make_and_renew.Goals as goal

pub returns-in_err-touched-clause-bounded : goal.returns-in_err-touched-clause-bounded
returns-in_err-touched-clause-bounded c = c.requires.right.bounded

pub returns-in_err-undo-clause-bounded : goal.returns-in_err-undo-clause-bounded
returns-in_err-undo-clause-bounded c =
    bounds_stay c.args.roads.now c.make.new.self c.make.ensures.slots c.in_err-undo.ensures.same c.requires.right.bounded

pub renew-requires : goal.renew-requires
renew-requires c =
    let old = c.args.roads.now in
    let new = c.make.new.self in
    let e = edit_of c.args.edit in
    let done = c.in_ok-undo.ensures.done in
    let touched = c.in_ok-touched.touched in
    let can = can_edit c.requires.right e touched (c.in_ok-touched.ensures _ _ _ c.requires.plan) (map_of new) done in
    rw (c.new-none.ensures (items c.args.paths.now)) (record {
      renewable = (map_of old, can);
      bounded = bounds_edited old new c.make.ensures.slots
          (is_edit old new c.make.ensures.slots e done (nodes_of touched) can.before.difference.nodes) c.requires.right.bounded;
    })

pub returns-in-Ok-clause-done : goal.returns-in-Ok-clause-done
returns-in-Ok-clause-done c = rw c.keep.ensures c.in_ok-undo.ensures.done

pub returns-in-Ok-clause-renewed : goal.returns-in-Ok-clause-renewed
returns-in-Ok-clause-renewed c = rw c.keep.ensures (
  c.in_ok-touched.touched,
  c.in_ok-touched.ensures _ _ _ c.requires.plan,
  rw (c.new-none.ensures (items c.args.paths.now)) at c.in-Ok.ensures.renewed,
)

pub returns-in-Ok-clause-bounded : goal.returns-in-Ok-clause-bounded
returns-in-Ok-clause-bounded c = rw c.keep.ensures c.in-Ok.ensures.bounded

pub returns-clause-map : goal.returns-clause-map
returns-clause-map c = c.undo.ensures ∙ c.in_ok-undo.ensures.before

pub returns-clause-bounded : goal.returns-clause-bounded
returns-clause-bounded c = bounded_invalid c.in-Err.ensures.invalid
