use Rattle.olr_search.proofs.Common.{ℕ, Bool, List, nat_le, filter, label_of, get_or, subst, sym, Contains-get_or, ◌∙◌}
use Rattle.olr_search.proofs.Common.{AreFilled, AreNodesIn, take_all, filter_more}
use Rattle.olr_search.proofs.DistinctLemmas.{nodes_more}
use Rattle.olr_search.proofs.frontier.Frontier.nodes_within.Goals as goal

pub loop-slot-preserved : goal.loop-slot-preserved
loop-slot-preserved g c = λ filled.
    let M = g.M.MapRead.map c.args.map.now in
    let slot = g.M.MapRead.node_slot c.args.map.now in
    let items = c.deref-slot-items.result.now in
    let n = c.loop-slot.slot-index in
    let test : ℕ → Bool = λ p. nat_le (label_of c.args.self.now p) c.args.limit in
    let own = filled (get_or items n 0) (Contains-get_or items n 0 c.loop-slot-test.true) in
    let more = filter_more test items n 0 c.loop-slot-test.true in
    let pushed = c.in_ok-push_within.ensures own.0 own.1 own.2 in
    coe 1 0 (i. AreNodesIn M slot (more i) (pushed i))
    (nodes_more M slot _ _ (get_or items n 0) own.0 (test (get_or items n 0)) own.1 own.2 (c.loop-slot.invariant filled))

pub returns : goal.returns
returns g c = λ filled.
    let M = g.M.MapRead.map c.args.map.now in
    let slot = g.M.MapRead.node_slot c.args.map.now in
    let is = c.deref-slot-items.ensures.value in
    let all = take_all c.loop-slot.slot-index c.deref-slot-items.result.now c.loop-slot-test.false in
    subst (λ (ps : List ℕ). AreNodesIn M slot (filter (λ p. nat_le (label_of c.args.self.now p) c.args.limit) ps) c.loop-slot.nodes.items)
    (all ∙ is) (c.loop-slot.invariant (subst (AreFilled M slot) (sym is) filled))
