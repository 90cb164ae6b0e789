use Rattle.olr_register.proofs.Common.{map, map_of, take, items, all_named, Ambiguities, named_obstacle_of}
use Rattle.olr_register.proofs.ambiguities.all_ambiguities.Given as goal

-- of the paths so far
abbrev pub invariant-loop-k : goal.invariant-loop-k
invariant-loop-k l =
    Ambiguities l.margin (map_of l.roads) (take l.k (all_named (items l.paths))) (map named_obstacle_of l.all.items)
