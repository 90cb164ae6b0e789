use Rattle.olr_refs.proofs.Common.{◌<◌, ◌≤◌, ℕ, dm_of, stretch, limit}
use Rattle.olr_refs.proofs.choice.last_within_limit.Given as goal

-- the positions before k are within the limit
abbrev pub invariant-loop-k : goal.invariant-loop-k
invariant-loop-k g l =
    (j : ℕ) → l.i < j → j < l.k → dm_of (g.M.MapRead.map l.resolved.map.now) (stretch l.resolved.lines.now l.i j) ≤ limit
