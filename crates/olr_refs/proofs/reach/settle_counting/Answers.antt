use Rattle.olr_refs.proofs.Common.{inl, inr, on_ok_weaker, sym, subst, ◌∙◌, ◌++◌, ◌∷◌, [], Along, IsSearch, Map, counted_zero}
use Rattle.olr_refs.proofs.reach.settle_counting.Goals as goal

pub returns-then-routes-eq0-clause-search : goal.returns-then-routes-eq0-clause-search
returns-then-routes-eq0-clause-search g c =
    let M = g.M.MapRead.map c.args.resolved.now.map.now in
    let slot = g.M.MapRead.node_slot c.args.resolved.now.map.now in
    let margin = c.args.resolved.now.margin in
    let none = sym c.routes.ensures.value ∙ c.if-routes-eq0.true in
    on_ok_weaker c.settle_to.result
    (λ on xs from may.
    subst (λ (K : Map). IsSearch K slot Along from c.settle_to.new.self) (sym (counted_zero margin M (xs ++ c.args.line.id ∷ []) none))
    (on Along from (subst (λ (K : Map). IsSearch K slot Along from c.args.search.now) (counted_zero margin M xs none) may.1)))
    c.settle_to.ensures.search

pub returns-else-routes-eq0-clause-search : goal.returns-else-routes-eq0-clause-search
returns-else-routes-eq0-clause-search g c = on_ok_weaker c.settle_counting.result
    (λ on xs from may. on c.args.resolved.now.margin xs from (elim may.0 [
      | inl none ↦ absurd (c.if-routes-eq0.false (c.routes.ensures.value ∙ none))
      | inr count ↦ count
    ]) may.1) c.settle_counting.ensures.search
