use Rattle.olr_search.proofs.Common.{◌++◌, ◌∷◌, [], Along, on_ok_weaker, counted}
use Rattle.olr_search.proofs.CountingLemmas.{searched_as, may_go_on, with_own_fits}
use Rattle.olr_search.proofs.distances.Dijkstra.settle_counting.Goals as goal

pub settle_by-requires-clause-begun : goal.settle_by-requires-clause-begun
settle_by-requires-clause-begun g c =
    let b = c.requires.begun in
    let M = g.M.MapRead.map c.args.map.now in
    let slot = g.M.MapRead.node_slot c.args.map.now in
    let own = c.args.own.now in
    let s = c.args.self.now in (
      counted b.0 M (b.1 ++ own.id ∷ []),
      Along,
      b.2,
      searched_as M slot b.0 b.1 own s b.3,
      may_go_on M slot b.0 b.1 own s b.3 b.2 b.4,
    )

pub settle_by-requires-clause-fit : goal.settle_by-requires-clause-fit
settle_by-requires-clause-fit g c =
    let b = c.requires.begun in
    with_own_fits (g.M.MapRead.map c.args.map.now) (g.met.M.MapRead.sound c.args.map.now) b.0 b.3.margin c.args.own.now b.3.known
    b.3.len

pub returns-clause-search : goal.returns-clause-search
returns-clause-search g c =
    let M = g.M.MapRead.map c.args.map.now in
    let slot = g.M.MapRead.node_slot c.args.map.now in
    let own = c.args.own.now in
    let s = c.args.self.now in
    on_ok_weaker c.settle_by.result (λ k m xs from may h.
    k (counted m M (xs ++ own.id ∷ [])) Along from (searched_as M slot m xs own s may) (may_go_on M slot m xs own s may from h))
    c.settle_by.ensures.search
