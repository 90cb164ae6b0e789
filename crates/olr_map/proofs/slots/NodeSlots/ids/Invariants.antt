use Rattle.olr_map.proofs.Common.{◌≡◌, take, present}
use Rattle.olr_map.proofs.slots.NodeSlots.ids.Given as goal

abbrev pub invariant-loop-slot : goal.invariant-loop-slot
invariant-loop-slot l = l.ids.items ≡ present (take l.slot-index l.fn.self.ids.entries.items)
