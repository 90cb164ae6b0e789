use Rattle.olr_refs.proofs.Common.{take_all, ◌+◌, take, ◌∷◌, ◌++◌, [], ℕ, List, refl, sym, ap, ◌∙◌, subst, arith, slice_index}
use Rattle.olr_refs.proofs.Common.{ResolvedLine}
use Rattle.olr_refs.proofs.Ends.{HasEnds, ends_more}
use Rattle.olr_refs.proofs.Resolving.{record_at, records_length}
use Rattle.olr_refs.proofs.extension.push_ends.Goals as goal

pub loop-record-preserved : goal.loop-record-preserved
loop-record-preserved c = λ M slot ls e.
    let long = records_length M slot ls _ e in
    let here = c.record.view_is ∙ c.record-item.is ∙ record_at M slot ls _ _ _ e (omega arith) in
    let pushed =
    c.in_ok-push-2.ensures.items ∙ ap (λ (ns : List ℕ). ns ++ c.record.inside.to ∷ []) c.in_ok-push.ensures.items
    ∙ ap (λ (r : ResolvedLine). (c.loop-record.nodes.items ++ r.from ∷ []) ++ r.to ∷ []) here in
    subst (λ (ns : List ℕ). HasEnds M c.args.nodes.now.items (take (c.loop-record.record-index + 1) ls) ns) (sym pushed)
    (ends_more M ls c.loop-record.record-index (slice_index ls c.loop-record.record-index) (omega arith) refl
    _ c.loop-record.nodes.items (c.loop-record.invariant M slot ls e))

pub returns : goal.returns
returns c = λ M slot ls e.
    let long = records_length M slot ls _ e in
    subst (λ (zs : List ℕ). HasEnds M c.args.nodes.now.items zs c.loop-record.nodes.items)
    (take_all c.loop-record.record-index ls (omega arith)) (c.loop-record.invariant M slot ls e)
