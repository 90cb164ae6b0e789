use Rattle.olr_spec.proofs.AscendingLists.{put_ascends, insert_adds, insert_keeps}
use Rattle.olr_model.proofs.footprint.Footprint.note.Goals as goal

pub invariant_of-self : goal.invariant_of-self
invariant_of-self c =
    let xs = c.self.inside.nodes.items in
    rw c.in_ok-insert.ensures.items
    (put_ascends xs c.args.node c.in-Err.place c.self.invariant (rw c.deref.ensures.value at c.in-Err.ensures.position))

pub returns-in_ok-insert-clause-ok : goal.returns-in_ok-insert-clause-ok
returns-in_ok-insert-clause-ok c = λ n.
    rw (c.in_ok-insert.ensures.items, ← c.self.view_is) (
      insert_adds c.self.inside.nodes.items c.args.node c.in-Err.place n,
      insert_keeps c.self.inside.nodes.items c.args.node c.in-Err.place n,
    )
