use Rattle.olr_paths.proofs.Common.{◌≡◌, items}
use Rattle.olr_paths.proofs.positions.tidy.Given as goal

-- the paths are unchanged
abbrev pub invariant-loop-position : goal.invariant-loop-position
invariant-loop-position l = items l.list ≡ items l.initial.list
