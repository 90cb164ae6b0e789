use Rattle.olr_search.proofs.Common.{◌≡◌, ◌≤◌, ◌<◌, ◌+◌, ℕ, List, Map, IsTrue, get_or, has_node, Leads, Moves, label_of}
use Rattle.olr_search.proofs.Common.{IsLabelled, StaysWithin, IsAhead, IsSeenAs}
use Rattle.olr_search.proofs.WayLemmas.{no_end}
use Rattle.olr_search.proofs.steps.follow.Given as goal

abbrev pub invariant-loop-index : goal.invariant-loop-index
invariant-loop-index g l = record {
  moves : Moves l.initial.frontier l.frontier;
  labelled : (N : Map) (v : ℕ) (from : List (ℕ × ℕ)) →
      IsSeenAs (g.M.MapRead.map l.map) N (g.M.MapRead.node_slot l.map) l.direction (g.L.Lengths.counts l.lengths) l.fn.slot →
      IsTrue (has_node N v) → g.M.MapRead.node_slot l.map v ≡ l.fn.slot → Leads N l.direction from v l.dist →
      IsLabelled N (g.M.MapRead.node_slot l.map) l.direction from l.initial.frontier →
      IsLabelled N (g.M.MapRead.node_slot l.map) l.direction from l.frontier;
  followed : (j : ℕ) → j < l.index →
      let e = get_or l.ends j no_end in
      let d = l.dist + g.L.Lengths.counts l.lengths (get_or l.lines j 0) e.len in
      g.A.Admits.lets l.admits e.slot d → label_of l.frontier e.slot ≤ d;
  near : (N : Map) →
      IsSeenAs (g.M.MapRead.map l.map) N (g.M.MapRead.node_slot l.map) l.direction (g.L.Lengths.counts l.lengths) l.fn.slot →
      StaysWithin N (g.M.MapRead.node_slot l.map) l.direction l.dist (label_of l.initial.frontier) (label_of l.frontier);
  ahead : (next : ℕ) → next ≤ l.dist → IsAhead l.initial.frontier next → IsAhead l.frontier next;
}
