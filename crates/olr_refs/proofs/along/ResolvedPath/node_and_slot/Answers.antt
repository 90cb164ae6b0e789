use Rattle.olr_refs.proofs.Common.{◌∙◌, arith}
use Rattle.olr_refs.proofs.Joined.{last_end}
use Rattle.olr_refs.proofs.along.ResolvedPath.node_and_slot.Goals as goal

pub returns-else-k-self-clause-node : goal.returns-else-k-self-clause-node
returns-else-k-self-clause-node g c =
    (last_end (g.M.MapRead.map c.args.self.now.map.now) (g.M.MapRead.node_slot c.args.self.now.map.now) c.args.self.now.lines.now
    c.args.k _ (omega arith) (omega arith) (c.line-else-k-self.view_is ∙ c.resolved_line-line-else-k-self.ensures.value)).0

pub returns-else-k-self-clause-slot : goal.returns-else-k-self-clause-slot
returns-else-k-self-clause-slot g c =
    (last_end (g.M.MapRead.map c.args.self.now.map.now) (g.M.MapRead.node_slot c.args.self.now.map.now) c.args.self.now.lines.now
    c.args.k _ (omega arith) (omega arith) (c.line-else-k-self.view_is ∙ c.resolved_line-line-else-k-self.ensures.value)).1
