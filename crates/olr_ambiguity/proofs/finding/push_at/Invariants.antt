use Rattle.olr_ambiguity.proofs.Common.{◌≡◌, ◌++◌, map, take, Other_node, found_of}
use Rattle.olr_ambiguity.proofs.finding.push_at.Given as goal

-- the nodes so far
abbrev pub invariant-loop-node : goal.invariant-loop-node
invariant-loop-node g l =
    map found_of l.found.items ≡ map found_of l.initial.found.items ++ map (λ o. (l.lrp, o))
    (map (λ v. Other_node v) (take l.node-index l.node-items))
