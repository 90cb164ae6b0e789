use Rattle.olr_ambiguity.proofs.Common.{◌≡◌, ◌<◌, ℕ, Contains, IsTrue, Some, slice_get, Coord, list_any, is_in}
use Rattle.olr_ambiguity.proofs.near.nodes_in.Given as goal

-- those in the slots so far
abbrev pub invariant-loop-k : goal.invariant-loop-k
invariant-loop-k l =
    record {
      right : (v : ℕ) → Contains l.found.items v → (j : ℕ) × (slice_get l.ids j ≡ Some (Some v));
      whole : (j v : ℕ) (c : Coord) → j < l.k → slice_get l.ids j ≡ Some (Some v) → slice_get l.places j ≡ Some c →
          IsTrue (list_any (λ w. is_in w c) l.windows) → Contains l.found.items v;
    }
