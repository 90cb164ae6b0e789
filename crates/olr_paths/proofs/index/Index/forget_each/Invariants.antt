use Rattle.olr_paths.proofs.NotedPositions.{Forgot, NumberIn}
use Rattle.olr_paths.proofs.index.Index.forget_each.Given as goal

-- the numbers now still have the path id
abbrev pub invariant-loop-k : goal.invariant-loop-k
invariant-loop-k g l = Forgot (NumberIn g.T.Numbered.number_of l.current) l.path_id l.initial.self l.self
