use Rattle.olr_map.proofs.Common.{◌≡◌, ◌+◌, ◌-◌, ℕ, length, slot_by}
use Rattle.olr_map.proofs.slot_index.SlotIndex.cover.Given as goal

abbrev pub invariant-loop-self : goal.invariant-loop-self
invariant-loop-self l =
    record {
      slots : (k : ℕ) → slot_by l.self k ≡ slot_by l.initial.self k;
      sparse : l.self.sparse ≡ l.initial.self.sparse;
    }

abbrev pub decreases-loop-self : goal.decreases-loop-self
decreases-loop-self l = l.number + 1 - length l.self.dense.items
