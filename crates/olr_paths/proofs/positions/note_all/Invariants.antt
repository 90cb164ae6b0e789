use Rattle.olr_paths.proofs.Common.{◌≡◌, take, items, AreNotedAt}
use Rattle.olr_paths.proofs.positions.note_all.Given as goal

-- the results so far have index entries, and the list is unchanged
abbrev pub invariant-loop-position : goal.invariant-loop-position
invariant-loop-position l = AreNotedAt l.list.path_ids.items l.list.finder (take l.position-index l.fresh)
    × (items l.list ≡ items l.initial.list)
