use Rattle.olr_register.proofs.Common.{◌≡◌, ◌<◌, ℕ, true, has_node, map_of, is_recordable_node_at, slot_of}
use Rattle.olr_register.proofs.dumps.is_recordable_map.Given as goal

abbrev pub invariant-loop-slot : goal.invariant-loop-slot
invariant-loop-slot l =
    (v : ℕ) → has_node (map_of l.fn.roads) v ≡ true → slot_of l.fn.roads v < l.slot →
    is_recordable_node_at (map_of l.fn.roads) v ≡ true
