use Rattle.olr_renewal.proofs.Common.{All, take, min, GREATEST_LIMIT, Near, nodes_of}
use Rattle.olr_renewal.proofs.affected.is_query_touched.Given as goal

-- none of the coverage queries so far reaches a touched node
abbrev pub invariant-loop-query : goal.invariant-loop-query
invariant-loop-query g l = All (λ k. ¬ Near (g.M.MapRead.map l.update.map.now) (nodes_of l.update.touched.now) k.from (min k.within GREATEST_LIMIT))
    (take l.query-index l.queries)
