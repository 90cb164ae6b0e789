use Rattle.olr_renewal.proofs.Common.{◌≡◌, ◌<◌, ℕ, IsTrue, get_or, has_node, Finds, Includes}
use Rattle.olr_renewal.proofs.candidates.put_found_at.Given as goal

-- the positions for the slots so far are added
abbrev pub invariant-loop-slot : goal.invariant-loop-slot
invariant-loop-slot g l = record {
  grows : Includes l.initial.found.items l.found.items;
  put : (j : ℕ) → j < l.slot-index → (v : ℕ) → IsTrue (has_node (g.M.MapRead.map l.map) v) →
      g.M.MapRead.node_slot l.map v ≡ get_or l.slots j 0 → Finds l.path_ids l.index v l.found.items;
}
