use Rattle.olr_paths.proofs.Common.{◌≡◌, ℕ, List, [], ◌∷◌, ◌++◌, ◌+◌, inl, inr, take, sym, ap, ◌∙◌, subst, take_more, BeginsPut}
use Rattle.olr_paths.proofs.Common.{puts_of, NamedPath}
use Rattle.olr_paths.proofs.OriginLemmas.{begins_push}
use Rattle.olr_paths.proofs.queries.fresh_queries.Goals as goal

abbrev Fresh : Type 0
Fresh = List (ℕ × NamedPath)

pub loop-named-preserved : goal.loop-named-preserved
loop-named-preserved c = λ v h.
    let es : Fresh = c.args.fresh.now in
    let k = c.loop-named.named-index in
    let e : ℕ × NamedPath = c.loop-named-item.result in
    let more : take (k + 1) es ≡ take k es ++ e ∷ [] = take_more es k e c.loop-named-test.true
    ∙ ap (λ (x : ℕ × NamedPath). take k es ++ x ∷ []) (sym c.loop-named-item.is) in
    elim (begins_push (take k es) e v (subst (λ (xs : Fresh). BeginsPut (puts_of xs) v) more h)) [
      | inl a ↦ c.in_ok-push_queries.ensures.before v (c.loop-named.invariant v a)
      | inr b ↦ c.in_ok-push_queries.ensures.named v b
    ]
