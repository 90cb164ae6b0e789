use Rattle.olr_renewal.proofs.Common.{ℕ, ◌<◌, ◌≤◌, IsTrue, has, Includes}
use Rattle.olr_renewal.proofs.candidates.put_range.Given as goal

-- the positions so far are added
abbrev pub invariant-loop-position : goal.invariant-loop-position
invariant-loop-position l = Includes l.initial.found.items l.found.items
    × ((k : ℕ) → l.from ≤ k → k < l.position → IsTrue (has l.found.items k))
