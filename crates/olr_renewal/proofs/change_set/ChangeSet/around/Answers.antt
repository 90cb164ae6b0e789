use Rattle.olr_renewal.proofs.Common.{◌≡◌, ℕ, List, ◌++◌, ap, ◌∙◌, arith, dedup_is, common_steps, lines_in, lines_out}
use Rattle.olr_renewal.proofs.AroundLemmas.{around_more, once_ascends, once_has}
use Rattle.olr_renewal.proofs.change_set.ChangeSet.around.Goals as goal

pub loop-node-preserved : goal.loop-node-preserved
loop-node-preserved g c =
    let M = g.M.MapRead.map c.args.map.now in
    let v : ℕ = c.node-item.result in
    let before : List ℕ = c.loop-node.lines.items in
    let grown : c.extend_from_slice-in-loop-node.new.self.items ≡ (before ++ lines_in M v) ++ lines_out M v =
    c.in_ok-extend_from_slice-2.ensures.items
    ∙ ap (λ (xs : List ℕ). c.extend_from_slice.new.self.items ++ xs) c.out_lines.ensures
    ∙ ap (λ (xs : List ℕ). xs ++ lines_out M v)
    (c.in_ok-extend_from_slice.ensures.items ∙ ap (λ (xs : List ℕ). before ++ xs) c.in_lines.ensures) in
    λ x. rw grown (around_more M _ c.loop-node.node-index v c.loop-node-test.true c.node-item.is before x
    (c.loop-node.invariant x))

pub invariant_of-result : goal.invariant_of-result
invariant_of-result g c = record {
  nodes_ascend = once_ascends _ _ c.sort_unstable.ensures.sorted (dedup_is _ _ _ c.dedup.ensures.filtered);
  lines_rise = once_ascends _ _ c.sort_unstable-2.ensures.sorted (dedup_is _ _ _ c.dedup-2.ensures.filtered);
}

pub returns : goal.returns
returns g c =
    let nodes =
    once_has c.in_ok-own.own.items c.sort_unstable.new.self.items c.dedup.new.self.items c.sort_unstable.ensures.permutation
    (dedup_is _ _ _ c.dedup.ensures.filtered) in
    let lines =
    once_has c.loop-node.lines.items c.sort_unstable-2.new.self.items c.dedup-2.new.self.items
    c.sort_unstable-2.ensures.permutation (dedup_is _ _ _ c.dedup-2.ensures.filtered) in
    grind (arith, common_steps, nodes, lines)
