use Rattle.olr_ambiguity.proofs.Common.{◌∙◌, ◌++◌, sym, get_or_from_slice_get, arith, obstacles_at}
use Rattle.olr_ambiguity.proofs.Lists.{one_more, numbered}
use Rattle.olr_ambiguity.proofs.finding.obstacles.Goals as goal

pub loop-k-preserved : goal.loop-k-preserved
loop-k-preserved g c =
    let M = g.M.MapRead.map c.args.map.now in
    let r = c.args.reference.now in
    let k = c.loop-k.k in
    let own = c.own_line-own.result in
    let is = c.own_line-own.ensures in
    let step = one_more M r c.args.own.now k own.id c.loop-k-test.true (get_or_from_slice_get c.args.own.now k own.id own.id is.id) in
    c.in_ok-push_at.ensures
    ∙ (λ i. c.loop-k.invariant i ++ numbered k (obstacles_at M (is.side i) (is.place i) own.id)) ∙ sym step

pub push_at-requires-clause-grid : goal.push_at-requires-clause-grid
push_at-requires-clause-grid g c =
    let is = c.own_line-own.ensures in
    let rivals = c.requires.grid c.loop-k.k c.own_line-own.result.id is.id in
    grind (arith, is.side, is.place, rivals)
