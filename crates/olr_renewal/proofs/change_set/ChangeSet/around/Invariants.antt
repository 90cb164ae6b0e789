use Rattle.olr_renewal.proofs.Common.{ℕ, take, has, IsTrue, ◌↔◌, IsLineAround}
use Rattle.olr_renewal.proofs.change_set.ChangeSet.around.Given as goal

-- the lines around the nodes so far
abbrev pub invariant-loop-node : goal.invariant-loop-node
invariant-loop-node g l =
    (x : ℕ) → IsTrue (has l.lines.items x) ↔ IsLineAround (g.M.MapRead.map l.map) (take l.node-index l.node-items) x
