use Rattle.olr_map.proofs.Common.{arith, common_steps}
use Rattle.olr_map.proofs.SlotLemmas.{put_slotted}
use Rattle.olr_map.proofs.slab.Slab.put.Goals as goal

pub invariant_of-self : goal.invariant_of-self
invariant_of-self g c =
    let s = c.args.self.now in
    let filled = put_slotted s.entries.items s.free.items _ s.slotted c.pop.new.self.items c.in-Some.slot c.args.entry in
    grind (arith, filled)

pub returns-in-None-clause-inserts : goal.returns-in-None-clause-inserts
returns-in-None-clause-inserts g c = grind (arith, common_steps)
