use Rattle.olr_search.proofs.Common.{◌≡◌, ◌<◌, ◌≤◌, ◌+◌, ℕ, get_or, label_of}
use Rattle.olr_search.proofs.WayLemmas.{no_end}
use Rattle.olr_search.proofs.distances.Dijkstra.is_only_predecessor.Given as goal

abbrev pub invariant-loop-index : goal.invariant-loop-index
invariant-loop-index l =
    (j : ℕ) → j < l.index → label_of l.self.frontier (get_or l.ends j no_end).slot + (get_or l.ends j no_end).len ≤ l.within
    → get_or l.lines j 0 ≡ l.line
