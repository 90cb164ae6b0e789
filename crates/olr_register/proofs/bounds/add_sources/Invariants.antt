use Rattle.olr_register.proofs.Common.{ℕ, List, All, take, Map, IsSource, IsUnderWay}
use Rattle.olr_register.proofs.bounds.add_sources.Given as goal

-- no source is lost, and those so far are among them
abbrev pub invariant-loop-query : goal.invariant-loop-query
invariant-loop-query l = record {
  under_way : (M : Map) (s : ℕ → ℕ) (T : List ℕ) → IsUnderWay M s T l.initial.bounds → IsUnderWay M s T l.bounds;
  before : (s w : ℕ) → IsSource l.initial.bounds s w → IsSource l.bounds s w;
  added : All (λ k. IsSource l.bounds k.from k.within) (take l.query-index l.queries);
}
