use Rattle.olr_ambiguity.proofs.Common.{◌≡◌, map, take, obstacles_from, found_of}
use Rattle.olr_ambiguity.proofs.finding.obstacles.Given as goal

-- the ambiguities at the LRPs so far
abbrev pub invariant-loop-k : goal.invariant-loop-k
invariant-loop-k g l = map found_of l.found.items ≡ obstacles_from (g.M.MapRead.map l.map) l.reference 0 (take l.k l.own)
