use Rattle.olr_map.proofs.AllIds.{ids_more}
use Rattle.olr_map.proofs.Common.{arith, common_steps}
use Rattle.olr_map.proofs.slots.NodeSlots.ids.Goals as goal

pub loop-slot-preserved : goal.loop-slot-preserved
loop-slot-preserved c = grind (arith, ids_more)

pub returns : goal.returns
returns c = grind (arith, common_steps)
