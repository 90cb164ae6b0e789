use Rattle.olr_map.proofs.Common.{arith}
use Rattle.olr_map.proofs.ColumnLemmas.{row_inserted, stays_beside}
use Rattle.olr_map.proofs.slots.NodeSlots.put.Goals as goal

pub returns-clause-inserts : goal.returns-clause-inserts
returns-clause-inserts c =
    rw (c.put_beside.ensures.items, c.put_beside-2.ensures.items, c.put_beside-3.ensures.items)
    (row_inserted c.args.self.now c.put-slot.new.self c.put-slot.result c.args.id c.args.place c.args.outs c.args.ins
    c.put-slot.ensures.inserts c.put-slot.ensures.fills)

pub invariant_of-self : goal.invariant_of-self
invariant_of-self c = grind (arith, stays_beside)
