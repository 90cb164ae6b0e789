use Rattle.olr_search.proofs.Common.{◌≤◌, ℕ, List, Map, label_of, IsUnderWay, IsCut, IsAhead, StaysWithin, to_do}
use Rattle.olr_search.proofs.Common.{IsSearchedAs}
use Rattle.olr_search.proofs.steps.settle.Given as goal

abbrev pub invariant-loop-next : goal.invariant-loop-next
invariant-loop-next g l = record {
  cut : (N : Map) (from : List (ℕ × ℕ)) (next : ℕ) → IsAhead l.initial.frontier next →
      IsSearchedAs (g.M.MapRead.map l.map) N (g.M.MapRead.node_slot l.map) l.direction (g.L.Lengths.counts l.lengths)
      l.initial.frontier next → IsUnderWay N (g.M.MapRead.node_slot l.map) l.direction from l.initial.frontier →
      IsCut N (g.M.MapRead.node_slot l.map) l.direction from (g.A.Admits.lets l.admits) l.frontier;
  better : (p : ℕ) → label_of l.frontier p ≤ label_of l.initial.frontier p;
  near : (N : Map) (next : ℕ) → IsAhead l.initial.frontier next →
      IsSearchedAs (g.M.MapRead.map l.map) N (g.M.MapRead.node_slot l.map) l.direction (g.L.Lengths.counts l.lengths)
      l.initial.frontier next →
      StaysWithin N (g.M.MapRead.node_slot l.map) l.direction l.limit (label_of l.initial.frontier) (label_of l.frontier);
  ahead : (next : ℕ) → IsAhead l.initial.frontier next → IsAhead l.frontier next;
}

abbrev pub decreases-loop-next : goal.decreases-loop-next
decreases-loop-next g l = to_do l.frontier
