use Rattle.olr_map.proofs.Common.{arith}
use Rattle.olr_map.proofs.SlotLemmas.{take_slotted, free_room}
use Rattle.olr_map.proofs.slab.Slab.take.Goals as goal

pub invariant_of-self : goal.invariant_of-self
invariant_of-self g c =
    let s = c.args.self.now in
    let room = free_room s.entries.items s.free.items _ s.slotted c.args.slot c.requires in
    let len = s.free.ok.0 in
    record {
      slotted = rw c.replace-entry.ensures.after
          (take_slotted s.entries.items s.free.items _ s.slotted c.args.slot c.push_reserved.new.self.items _ c.requires
          c.push_reserved.ensures.items (omega (arith, c.push_reserved.ensures.capacity)));
    }

pub push_reserved-requires : goal.push_reserved-requires
push_reserved-requires g c =
    let s = c.args.self.now in
    let room = free_room s.entries.items s.free.items _ s.slotted c.args.slot c.requires in
    let len = s.free.ok.0 in
    omega arith
