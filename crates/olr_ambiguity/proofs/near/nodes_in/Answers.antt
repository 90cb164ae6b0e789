use Rattle.olr_ambiguity.proofs.Common.{◌≡◌, ◌∙◌, inl, inr, Some, refl, sym, ap, arith, cases_lt, length, slice_get, Coord}
use Rattle.olr_ambiguity.proofs.Common.{get_or_from_slice_get, slice_get_read, slice_get_within, list_any, is_in}
use Rattle.olr_ambiguity.proofs.near.nodes_in.Goals as goal

pub loop-k-preserved : goal.loop-k-preserved
loop-k-preserved c =
    let inv = c.loop-k.invariant in
    let k = c.loop-k.k in
    let ids = c.args.ids.now in
    let places = c.args.places.now in
    let id = c.index-ids-k.result in
    let place = c.index-places-k.result in
    let lt = c.loop-k-test.true in
    record {
      right = λ v there. grind (arith, (c.in_ok-push_near.ensures v).0 there, inv.right v, slice_get_read ids (length ids) k id refl lt c.index-ids-k.is);
      whole = λ j v d below at beside near. elim (cases_lt j k) [
        | inl before ↦ (c.in_ok-push_near.ensures v).1 (inl (inv.whole j v d before at beside near))
        | inr last ↦
            let here : j ≡ k = omega (arith, below, last) in
            let there : id ≡ Some v =
            c.index-ids-k.is ∙ get_or_from_slice_get ids k (Some v) id (ap (λ n. slice_get ids n) (sym here) ∙ at) in
            let same : place ≡ d =
            c.index-places-k.is ∙ get_or_from_slice_get places k d place (ap (λ n. slice_get places n) (sym here) ∙ beside) in
            (c.in_ok-push_near.ensures v).1 (inr (there, ap (λ (e : Coord). list_any (λ w. is_in w e) c.args.windows.now) same ∙ near))
      ];
    }

pub returns-clause-whole : goal.returns-clause-whole
returns-clause-whole c = λ k v d at beside near.
    c.loop-k.invariant.whole k v d
    (let lt = slice_get_within c.args.ids.now k (Some v) at in let end = c.loop-k-test.false in omega arith) at beside near
