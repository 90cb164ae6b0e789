use Rattle.olr_paths.proofs.Common.{put_ascends, put_has, stays_has}
use Rattle.olr_paths.proofs.index.put.Goals as goal

pub returns-in_ok-insert-clause-ascend : goal.returns-in_ok-insert-clause-ascend
returns-in_ok-insert-clause-ascend c =
    rw c.in_ok-insert.ensures.ok
    (put_ascends c.args.path_ids.now.items c.args.path_id c.in-Err.place c.requires
    (rw c.deref.ensures at c.in-Err.ensures.position))

pub returns-in_ok-insert-clause-ok : goal.returns-in_ok-insert-clause-ok
returns-in_ok-insert-clause-ok c = λ m.
    rw c.in_ok-insert.ensures.ok (put_has c.args.path_ids.now.items c.args.path_id c.in-Err.place m)

pub returns-in_default-clause-ok : goal.returns-in_default-clause-ok
returns-in_default-clause-ok c =
    λ m. stays_has c.args.path_ids.now.items c.args.path_id c.in_default.field-0 m c.requires
    (rw c.deref.ensures at c.in_default.ensures.position)
