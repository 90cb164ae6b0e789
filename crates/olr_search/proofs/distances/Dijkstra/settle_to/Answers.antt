use Rattle.olr_search.proofs.Common.{on_ok_weaker}
use Rattle.olr_search.proofs.MarkLemmas.{plain}
use Rattle.olr_search.proofs.distances.Dijkstra.settle_to.Goals as goal

pub returns-clause-search : goal.returns-clause-search
returns-clause-search g c =
    on_ok_weaker c.settle_by.result (λ k direction from h. k _ direction from (plain _ _ _ _ _) h) c.settle_by.ensures.search

pub returns-clause-near : goal.returns-clause-near
returns-clause-near g c =
    on_ok_weaker c.settle_by.result (λ k direction from h. k _ direction from (plain _ _ _ _ _) h) c.settle_by.ensures.near
