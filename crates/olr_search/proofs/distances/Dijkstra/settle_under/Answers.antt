use Rattle.olr_search.proofs.Common.{ℕ, ◌+◌, List, sym, subst, arith, IsSearch, IsCut, Direction}
use Rattle.olr_search.specs.Bounds.{IsUnder}
use Rattle.olr_search.proofs.CutLemmas.{cut_settled}
use Rattle.olr_search.proofs.MarkLemmas.{plain}
use Rattle.olr_search.proofs.distances.Dijkstra.settle_under.Given.{Over}
use Rattle.olr_search.proofs.distances.Dijkstra.settle_under.Goals as goal

-- what the search is cut to
cut : (g : Over) (c : goal.In_ok-settle g) (direction : Direction) (from : List (ℕ × ℕ)) →
    IsSearch (g.M.MapRead.map c.args.map.now) (g.M.MapRead.node_slot c.args.map.now) direction from c.args.self.now →
    IsCut (g.M.MapRead.map c.args.map.now) (g.M.MapRead.node_slot c.args.map.now) direction from
    (IsUnder c.args.bounds.now) c.settle.new.frontier
cut g c direction from h =
    let M = g.M.MapRead.map c.args.map.now in
    let slot = g.M.MapRead.node_slot c.args.map.now in
    let s = c.args.self.now in
    subst (λ (d : Direction). IsSearch M slot d from s → IsCut M slot d from (IsUnder c.args.bounds.now) c.settle.new.frontier)
    h.way (λ h. c.in_ok-settle.ensures.cut M from (s.limit + 1) h.ahead
    (plain M slot s.direction s.frontier (s.limit + 1)) h.under_way) h

pub settle-requires-clause-begun : goal.settle-requires-clause-begun
settle-requires-clause-begun g c =
    let b = c.requires.begun in
    let M = g.M.MapRead.map c.args.map.now in
    let slot = g.M.MapRead.node_slot c.args.map.now in
    let s = c.args.self.now in
    let h = subst (λ (d : Direction). IsSearch M slot d b.1 s) (sym b.2.way) b.2 in
    let as_is = plain M slot s.direction s.frontier (s.limit + 1) in
    (M, b.1, s.limit + 1, as_is, h.under_way, h.ahead)

pub returns-clause-labelled : goal.returns-clause-labelled
returns-clause-labelled g c = λ direction from h. (cut g c direction from h).labelled

pub returns-clause-settled : goal.returns-clause-settled
returns-clause-settled g c = λ direction from h bounds v d there under leads.
    let slot = g.M.MapRead.node_slot c.args.map.now in
    cut_settled (g.M.MapRead.map c.args.map.now) slot direction from (IsUnder c.args.bounds.now) c.settle.new.frontier
    (cut g c direction from h) (λ w e. IsUnder c.args.bounds.now (slot w) e)
    (λ w e u. (u, omega arith, λ p q. let lt = c.in_ok-settle.ensures.far e p q in omega arith))
    (λ w e k u le. omega arith) (λ x e known u. let less = bounds x known (omega arith) in omega arith) v d under leads
