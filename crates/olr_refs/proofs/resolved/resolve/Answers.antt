use Rattle.olr_refs.proofs.Common.{arith, common_steps}
use Rattle.olr_refs.proofs.Resolving.{are_records}
use Rattle.olr_refs.proofs.resolved.resolve.Goals as goal

pub resolve_after-requires : goal.resolve_after-requires
resolve_after-requires g c =
    rw c.deref.ensures.value (are_records (g.M.MapRead.map c.args.map.now) (g.M.MapRead.node_slot c.args.map.now) _
    c.loop-line.records.items c.loop-line.invariant.are)

pub loop-line-preserved : goal.loop-line-preserved
loop-line-preserved g c = grind (arith, common_steps)

pub returns : goal.returns
returns g c = grind (arith, common_steps)

pub returns-in_default : goal.returns-in_default
returns-in_default g c = grind (arith, common_steps)
