use Rattle.olr_paths.proofs.Common.{ℕ}
use Rattle.olr_paths.proofs.NotedPositions.{Forgot, NumberIn}
use Rattle.olr_paths.proofs.index.Index.forget_nodes.Given as goal

-- the nodes now still have the path id
abbrev pub invariant-loop-k : goal.invariant-loop-k
invariant-loop-k l = Forgot (NumberIn (λ (v : ℕ). v) l.current) l.path_id l.initial.self l.self
