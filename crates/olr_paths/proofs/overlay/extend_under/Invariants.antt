use Rattle.olr_paths.proofs.Common.{items, changes_in}
use Rattle.olr_paths.proofs.NamedEntries.{items_of}
use Rattle.olr_paths.proofs.Overlaying.{Copied}
use Rattle.olr_paths.proofs.overlay.extend_under.Given as goal

-- the paths so far are copied, under their changes
abbrev pub invariant-loop-name : goal.invariant-loop-name
invariant-loop-name l =
    Copied (changes_in l.changes.entries) (items_of l.name-iterator) (items l.list) (items l.initial.to) (items l.to)
