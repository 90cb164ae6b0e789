use Rattle.olr_renewal.proofs.Common.{◌≡◌, ℕ, Item, Some, None, false, slice_get, has, items, changes_in, change_at, Includes}
use Rattle.olr_renewal.proofs.candidates.put_changed.Given as goal

-- a path whose position isn't found has no change, if none of those that are left is its change
abbrev pub invariant-loop-name : goal.invariant-loop-name
invariant-loop-name l = Includes l.initial.found.items l.found.items
    × ((k : ℕ) (i : Item) → slice_get (items l.overlaid.list.now) k ≡ Some i → has l.found.items k ≡ false →
    change_at (changes_in l.name-iterator) i.name ≡ None →
    change_at (changes_in l.overlaid.overlay.now.changes.entries) i.name ≡ None)
