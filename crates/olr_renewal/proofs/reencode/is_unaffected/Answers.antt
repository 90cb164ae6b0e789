use Rattle.olr_renewal.proofs.Common.{[], refl, AreFar, items}
use Rattle.olr_renewal.proofs.Covering.{all_none, covers_far}
use Rattle.olr_renewal.proofs.RetainedLemmas.{all_left}
use Rattle.olr_renewal.proofs.reencode.is_unaffected.Goals as goal

pub returns-clause-paths : goal.returns-clause-paths
returns-clause-paths g c =
    let l = c.args.list.now in
    let ids = l.path_ids.items in
    λ yes m L N slot C edit was bounds.
    let far : AreFar N c.args.nodes.now (items l) = λ q b.
    c.if-not-are_unbounded.ensures.unbounded refl N slot q.from q.within edit bounds.right (bounds.sources q b) in
    all_left edit.sound was (λ k i at.
    covers_far N c.args.nodes.now c.args.lines.now l c.if-list.false c.if-not-list.false []
    (all_none ids l.finder.traversed [] (λ v. v) _ (c.if-not-finds_none.ensures refl))
    (all_none ids l.finder.lines [] (λ x. x) _ (c.if-not-finds_none-2.ensures refl)) far k i at refl)

pub returns-clause-bounds : goal.returns-clause-bounds
returns-clause-bounds g c = λ yes N slot edit under.
    c.if-not-is_settled.ensures refl N slot (c.if-not-are_unbounded.ensures.spared refl N slot edit under)
