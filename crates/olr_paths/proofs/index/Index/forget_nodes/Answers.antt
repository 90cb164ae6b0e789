use Rattle.olr_paths.proofs.Common.{ℕ, Contains, sym, ◌∙◌, subst, true≢false, place_of, there_found}
use Rattle.olr_paths.proofs.NotedPositions.{NumberIn, forgot_more}
use Rattle.olr_paths.proofs.index.Index.forget_nodes.Goals as goal

pub loop-k-preserved : goal.loop-k-preserved
loop-k-preserved c =
    let xs = c.args.current.now in
    let v = c.index-earlier-k.result in
    let r = c.binary_search.result in
    let place = place_of xs v r c.requires c.binary_search.ensures.position in
    forgot_more (NumberIn (λ (u : ℕ). u) c.args.current.now) _ _ _ _ _ c.loop-k.invariant
    (λ k. let on = there_found xs v r place (subst (Contains xs) (k.2 ∙ c.number.ensures.same) k.1) in
    true≢false (sym on ∙ sym c.is_ok.ensures.value ∙ c.if-is_ok.false)) c.remove.ensures
