use Rattle.olr_paths.proofs.Common.{◌≡◌, true, ◌+◌, ◌≤◌, items, all_put, puts_of, AreNotedAt, vec_len, vec_capacity}
use Rattle.olr_paths.proofs.positions.place.Given as goal

-- storing the remaining results has the outcome of storing all of them; they have index entries, there is capacity, and
-- the list may have paths that are not encoded yet
abbrev pub invariant-loop-position : goal.invariant-loop-position
invariant-loop-position l =
    (all_put (items l.list) (puts_of l.fresh.items) ≡ all_put (items l.initial.list) (puts_of l.initial.fresh.items))
    × AreNotedAt l.list.path_ids.items l.list.finder l.fresh.items
    × (vec_len l.before + vec_len l.fresh ≤ vec_capacity l.before) × (l.list.held ≡ true)

abbrev pub decreases-loop-position : goal.decreases-loop-position
decreases-loop-position l = vec_len l.fresh
