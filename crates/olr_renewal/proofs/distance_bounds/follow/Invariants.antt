use Rattle.olr_renewal.proofs.Common.{◌≡◌, ◌<◌, ◌≤◌, ◌+◌, ℕ, Option, IsTrue, get_or, has_node, Moves, label_of, AreLed, no_end}
use Rattle.olr_renewal.proofs.distance_bounds.follow.Given as goal

abbrev pub invariant-loop-end : goal.invariant-loop-end
invariant-loop-end g l = record {
  own : (v : ℕ) × IsTrue (has_node (g.M.MapRead.map l.map) v) × (g.M.MapRead.node_slot l.map v ≡ l.slot);
  moves : Moves l.initial.bounds l.bounds;
  followed : (j : ℕ) → j < l.end-index → (get_or l.end-items j no_end).len ≤ l.room →
      label_of l.bounds (get_or l.end-items j no_end).slot ≤ l.length + (get_or l.end-items j no_end).len;
  led : (S : ℕ → Option ℕ) → AreLed (g.M.MapRead.map l.map) (g.M.MapRead.node_slot l.map) S
      (label_of l.initial.bounds) (label_of l.bounds);
}
