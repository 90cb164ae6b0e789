use Rattle.olr_paths.proofs.Common.{ascends-remove, place_of, taken_has, lacks_has}
use Rattle.std.specs.Prelude.{Ok}
use Rattle.olr_paths.proofs.index.take_out.Goals as goal

pub returns-in-Ok-clause-ascend : goal.returns-in-Ok-clause-ascend
returns-in-Ok-clause-ascend c =
    let xs = c.args.path_ids.now.items in
    let found = place_of xs c.args.path_id (Ok c.in-Ok.place) c.requires
    (rw c.deref.ensures at c.in-Ok.ensures.position) in
    rw c.remove.ensures.items (ascends-remove xs c.in-Ok.place c.requires found.0)

pub returns-in-Ok-clause-holds : goal.returns-in-Ok-clause-holds
returns-in-Ok-clause-holds c m =
    rw c.remove.ensures.items
    (taken_has c.args.path_ids.now.items c.args.path_id c.in-Ok.place m c.requires
    (rw c.deref.ensures at c.in-Ok.ensures.position))

pub returns-in_default-clause-holds : goal.returns-in_default-clause-holds
returns-in_default-clause-holds c m =
    lacks_has c.args.path_ids.now.items c.args.path_id c.in_default.field-0 m c.requires
    (rw c.deref.ensures at c.in_default.ensures.position)
