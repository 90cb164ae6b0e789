use Rattle.olr_refs.proofs.Common.{◌↔◌, ◌≡◌, ℕ, List, Contains, sym, subst, Sees, LiesWithin, ap, inr, arith}
use Rattle.olr_refs.proofs.Common.{limit_of, Along, [], ◌∷◌, CoverageQuery, IsSearch, IsStrictlyIncreasing}
use Rattle.olr_search.proofs.DistinctLemmas.{no_more}
use Rattle.olr_spec.proofs.SameNumbers.{distinct_from_ascending}
use Rattle.olr_refs.proofs.Noting.{search_sees, noted_then}
use Rattle.olr_refs.proofs.footprints.note_query.Given.{Over}
use Rattle.olr_refs.proofs.footprints.note_query.Goals.{After-deref}
use Rattle.olr_refs.proofs.footprints.note_query.Goals as goal

-- the search from where the query begins, as far as it is long
settled : (g : Over) (c : After-deref g) →
    IsSearch (g.M.MapRead.map c.args.map.now) (g.M.MapRead.node_slot c.args.map.now) Along ((c.args.query.from, 0) ∷ [])
    c.settle_to.new.self × (limit_of c.settle_to.new.self ≡ c.args.query.within)
settled g c =
    let M = g.M.MapRead.map c.args.map.now in
    let slot = g.M.MapRead.node_slot c.args.map.now in
    let same = ap (λ (q : CoverageQuery). q.from) c.query.view_is in (
      c.in_ok-settle_to.ensures.search Along ((c.args.query.from, 0) ∷ [])
          (subst (λ (v : ℕ). IsSearch M slot Along ((v, 0) ∷ []) c.begin.new.self) same c.in_ok-begin.ensures.search),
      omega (arith, ap (λ (q : CoverageQuery). q.within) c.query.view_is, c.in_ok-begin.ensures.limit, c.in_ok-settle_to.ensures.limit),
    )

pub note_all-requires : goal.note_all-requires
note_all-requires g c =
    record {
      ascending = subst (λ (vs : List ℕ). IsStrictlyIncreasing vs) (sym c.deref.ensures.value)
          (c.in_ok-nodes.ensures.ascending _ _ (settled g (goal.at.note_all-requires g c).After-deref).0);
    }

pub returns-clause-noted : goal.returns-clause-noted
returns-clause-noted g c = λ v.
    let M = g.M.MapRead.map c.args.map.now in
    let q = settled g (goal.at.returns-clause-noted g c).After-deref in
    let there = subst (λ (vs : List ℕ). Contains vs v ↔ LiesWithin M Along ((c.args.query.from, 0) ∷ []) (limit_of c.settle_to.new.self) v) (sym c.deref.ensures.value)
    (c.in_ok-nodes.ensures.nodes _ _ v q.0) in
    let sees = search_sees M (g.M.MapRead.node_slot c.args.map.now) c.args.query _ q.0 c.requires.begins q.1 v in
    let all = c.in_ok-note_all.ensures.ok v in
    noted_then _ _ _ _ all (λ h. sees.0 (there.0 h)) (λ h. there.1 (sees.1 h))

pub returns-clause-few : goal.returns-clause-few
returns-clause-few g c =
    let nodes = c.in_ok-nodes.nodes.items in
    let q = settled g (goal.at.returns-clause-few g c).After-deref in
    let once = distinct_from_ascending nodes (c.in_ok-nodes.ensures.ascending _ _ q.0) in
    let few =
    no_more nodes c.note_all.new.self once
    (λ v on. (c.in_ok-note_all.ensures.ok v).1 (inr (subst (λ (vs : List ℕ). Contains vs v) (sym c.deref.ensures.value) on))) in
    omega (arith, few)
