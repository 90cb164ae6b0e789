use Rattle.olr_renewal.proofs.Common.{elements, ◌≡◌, ◌∙◌, ap, length, arith, nat_tests, take_all}
use Rattle.olr_renewal.proofs.Covering.{all_none, put_none}
use Rattle.olr_renewal.proofs.candidates.put_found.Goals as goal

pub loop-item-preserved : goal.loop-item-preserved
loop-item-preserved g c = grind (arith, elements)

pub returns-clause-put : goal.returns-clause-put
returns-clause-put g c =
    rw (take_all c.loop-item.item-index c.args.items.now (omega (arith, c.loop-item-test.false))) at c.loop-item.invariant.put

pub loop-item-preserved-then-is_empty-2 : goal.loop-item-preserved-then-is_empty-2
loop-item-preserved-then-is_empty-2 g c =
    let none : length c.of-of.result.now ≡ 0 = grind (arith, nat_tests) in
    put_none g.T.Numbered.number_of c.args.path_ids.now c.args.index.now _ _ _ _ _ _ c.of-of.result.now
    c.loop-item-test.true (c.index_number.ensures ∙ ap g.T.Numbered.number_of c.item-item.is) c.of-of.ensures.path_ids none
    c.loop-item.invariant

pub returns-then-is_empty-clause-put : goal.returns-then-is_empty-clause-put
returns-then-is_empty-clause-put g c = all_none c.args.path_ids.now c.args.index.now _ g.T.Numbered.number_of _
    (λ k d lt. c.is_empty.ensures c.if-is_empty.true _)
