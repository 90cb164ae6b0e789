use Rattle.olr_refs.proofs.Common.{◌≡◌, ◌<◌, ℕ, get_or, no_end}
use Rattle.olr_refs.proofs.degree_two_runs.first_apart.Given as goal

-- the lines so far lead to the other slot
abbrev pub invariant-loop-index : goal.invariant-loop-index
invariant-loop-index l = (k : ℕ) → k < l.index → (get_or l.ends k no_end).slot ≡ l.other
