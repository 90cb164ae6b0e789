use Rattle.olr_refs.proofs.Common.{ℕ, ◌≤◌, ◌*◌, ◌↔◌, ◌⊎◌, Contains, SeenBy, length, take}
use Rattle.olr_refs.proofs.footprints.note_queries.Given as goal

-- what the coverage queries so far reach is in the footprint
abbrev pub invariant-loop-query : goal.invariant-loop-query
invariant-loop-query g l = record {
  noted : (v : ℕ) → Contains l.footprint v
      ↔ (Contains l.initial.footprint v ⊎ SeenBy (g.M.MapRead.map l.map) (take l.query-index l.queries) v);
  few : l.settled ≤ l.query-index * length l.footprint;
}
