use Rattle.olr_route.proofs.Common.{◌∷◌, [], ◌⊎◌, ◌↔◌, ℕ, List, Contains, length, refl, sym, subst, inl, inr, ◌∙◌, Along}
use Rattle.olr_route.proofs.Common.{IsStrictlyIncreasing, LiesWithin, Counts, rules, distinct_from_ascending}
use Rattle.olr_search.proofs.DistinctLemmas.{no_more}
use Rattle.olr_route.proofs.routes.search.Given.{Over}
use Rattle.olr_route.proofs.routes.search.Goals.{In_ok-labels}
use Rattle.olr_route.proofs.routes.search.Goals as goal

pub returns-clause-labels : goal.returns-clause-labels
returns-clause-labels g c = c.in_ok-labels.ensures.labels c.args.source c.in_ok-search.ensures.search

pub note_all-requires : goal.note_all-requires
note_all-requires g c = record {
  ascending = subst (λ (vs : List ℕ). IsStrictlyIncreasing vs) (sym c.deref.ensures.value)
      (c.in_ok-labels.ensures.labels c.args.source c.in_ok-search.ensures.search).ascending;
}

-- exactly the nodes within the limit
near : (g : Over) (c : In_ok-labels g) (v : ℕ) → Contains c.in_ok-labels.labels.nodes.items v
    ↔ LiesWithin (g.M.MapRead.map c.args.map.now) Along ((c.args.source, 0) ∷ []) c.args.limit_dm v
near g c v =
    subst (λ (n : ℕ). Contains c.in_ok-labels.labels.nodes.items v
    ↔ LiesWithin (g.M.MapRead.map c.args.map.now) Along ((c.args.source, 0) ∷ []) n v)
    (c.in_ok-labels.ensures.limit ∙ c.in_ok-search.ensures.limit)
    ((c.in_ok-labels.ensures.labels c.args.source c.in_ok-search.ensures.search).near v)

pub returns-clause-footprint : goal.returns-clause-footprint
returns-clause-footprint g c = λ v.
    let here = near g (goal.at.returns-clause-footprint g c).In_ok-labels v in
    let all = subst (λ (vs : List ℕ). Contains c.note_all.new.self v ↔ (Contains c.args.footprint.now v ⊎ Contains vs v))
    c.deref.ensures.value (c.in_ok-note_all.ensures.ok v) in (
      λ there. elim (all.0 there) [ inl old ↦ inl old | inr new ↦ inr (here.0 new) ],
      λ w. all.1 (elim w [ inl old ↦ inl old | inr new ↦ inr (here.1 new) ]),
    )

pub returns-clause-work : goal.returns-clause-work
returns-clause-work g c =
    let nodes = c.in_ok-labels.labels.nodes.items in
    let up = (c.in_ok-labels.ensures.labels c.args.source c.in_ok-search.ensures.search).ascending in
    let count : Counts (g.M.MapRead.map c.args.map.now) Along ((c.args.source, 0) ∷ []) c.args.limit_dm (length nodes) =
    record {
      nodes = nodes;
      apart = distinct_from_ascending nodes up;
      exactly = near g (goal.at.returns-clause-work g c).In_ok-labels;
      many = refl;
    } in
    let few =
    no_more nodes c.note_all.new.self count.apart (λ q there. (c.in_ok-note_all.ensures.ok q).1
    (inr (subst (λ (vs : List ℕ). Contains vs q) (sym c.deref.ensures.value) there))) in
    (length nodes, count, search rules, few)
