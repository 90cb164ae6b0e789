use Rattle.olr_ambiguity.proofs.Common.{◌≡◌, ◌∙◌, List, ℕ, ap, filter, map, leg, node_on, ◌++◌, Other_bearing, Other_node}
use Rattle.olr_ambiguity.proofs.Common.{Same_sector, arith, common_steps, lines_on, found_of, side_of, is_twin_of, is_unclear}
use Rattle.std.proofs.lemmas.List.{take_all}
use Rattle.olr_ambiguity.proofs.Lists.{joined_at, numbered}
use Rattle.olr_ambiguity.proofs.finding.push_at.Goals as goal

pub returns : goal.returns
returns g c =
    let M = g.M.MapRead.map c.args.map.now in
    let o = c.args.own.now in
    let s = side_of o.side in
    let k = c.args.lrp in
    let lines_are : c.lines_on-lines.result.now ≡ lines_on s M (node_on s (leg M o.id)) =
    c.lines_on-lines.ensures.value ∙ ap (lines_on s M) c.requires.own.node_is in
    let nodes_are = c.as_slice-node-items.ensures.same ∙ c.in_ok-nodes.ensures in
    let start = map found_of c.args.found.now.items in
    let one = map found_of c.push_lines.new.found.items in
    let two = map found_of c.push_lines-2.new.found.items in
    joined_at k start one two (map found_of c.loop-node.found.items) _ _ _
    (c.in_ok-push_lines.ensures
    ∙ ap (λ (ys : List ℕ). start ++ numbered k (map (λ y. Same_sector y) (filter (is_twin_of M s o.id) ys))) lines_are)
    (c.in_ok-push_lines-2.ensures
    ∙ ap (λ (ys : List ℕ). one ++ numbered k (map (λ y. Other_bearing y) (filter (is_unclear M s o.id) ys))) lines_are)
    (c.loop-node.invariant ∙ ap (λ (vs : List ℕ). two ++ numbered k (map (λ v. Other_node v) vs))
    (take_all c.loop-node.node-index c.as_slice-node-items.result.now c.loop-node-test.false ∙ nodes_are))

pub loop-node-preserved : goal.loop-node-preserved
loop-node-preserved g c = grind (arith, common_steps)
