use Rattle.olr_register.proofs.Common.{◌≡◌, ◌++◌, map, take, found_of, named, named_obstacle_of}
use Rattle.olr_register.proofs.ambiguities.push_found.Given as goal

abbrev pub invariant-loop-one : goal.invariant-loop-one
invariant-loop-one l =
    map named_obstacle_of l.all.items
    ≡ map named_obstacle_of l.initial.all.items ++ map (named l.name) (map found_of (take l.one-index l.found))
