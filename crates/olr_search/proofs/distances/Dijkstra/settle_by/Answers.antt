use Rattle.olr_search.proofs.Common.{◌+◌, refl, sym, subst, arith, IsUnderWay, Direction, Dijkstra, StaysWithin, IsSearch}
use Rattle.olr_search.proofs.Common.{label_of, IsSearchedAs}
use Rattle.olr_search.proofs.CutLemmas.{settled_on_to}
use Rattle.olr_search.proofs.distances.Dijkstra.settle_by.Goals as goal

pub settle-requires-clause-begun : goal.settle-requires-clause-begun
settle-requires-clause-begun g c =
    let b = c.requires.begun in
    let h = b.4 in
    let slot = g.M.MapRead.node_slot c.args.map.now in
    let s = c.args.self.now in
    let told =
    subst (λ (d : Direction). IsSearchedAs (g.M.MapRead.map c.args.map.now) b.0 slot d (g.L.Lengths.counts c.args.lengths.now)
    s.frontier (s.limit + 1) × IsUnderWay b.0 slot d b.2 s.frontier) (sym h.way) (b.3, h.under_way) in
    (b.0, b.2, s.limit + 1, told.0, told.1, h.ahead)

pub returns-clause-near : goal.returns-clause-near
returns-clause-near g c = λ N direction from told h.
    let slot = g.M.MapRead.node_slot c.args.map.now in
    let s = c.args.self.now in
    subst (λ (d : Direction). IsSearchedAs (g.M.MapRead.map c.args.map.now) N slot d (g.L.Lengths.counts c.args.lengths.now)
    s.frontier (s.limit + 1) → StaysWithin N slot d c.args.limit (label_of s.frontier) (label_of c.settle.new.frontier)) h.way
    (c.in_ok-settle.ensures.near N (s.limit + 1) h.ahead) told

pub returns-clause-search : goal.returns-clause-search
returns-clause-search g c = λ N direction from told h.
    let slot = g.M.MapRead.node_slot c.args.map.now in
    let s = c.args.self.now in
    let e = c.in_ok-settle.ensures in
    let t : Dijkstra =
    record { direction = s.direction; limit = c.max-self.result; frontier = c.settle.new.frontier } in
    subst (λ (d : Direction). IsSearchedAs (g.M.MapRead.map c.args.map.now) N slot d (g.L.Lengths.counts c.args.lengths.now)
    s.frontier (s.limit + 1) → IsSearch N slot d from s → IsSearch N slot d from t) h.way
    (λ told h. settled_on_to N slot s.direction from s t c.args.limit h refl
    (e.cut N from (s.limit + 1) h.ahead told h.under_way) c.requires.small
    (λ d p q. let lt = e.far d p q in omega (arith, c.requires.small)) e.better c.max-self.ensures
    (e.near N (s.limit + 1) h.ahead told) (e.ahead (s.limit + 1) h.ahead)) told h
