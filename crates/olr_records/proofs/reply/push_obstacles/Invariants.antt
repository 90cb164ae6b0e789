use Rattle.olr_records.proofs.Common.{concat, obstacle_line, named_obstacle_of, ◌≡◌, ◌++◌, map, take}
use Rattle.olr_records.proofs.reply.push_obstacles.Given as goal

abbrev pub invariant-loop-obstacle : goal.invariant-loop-obstacle
invariant-loop-obstacle l =
    l.text.items
    ≡ l.initial.text.items ++ concat (map (λ e. obstacle_line (named_obstacle_of e)) (take l.obstacle-index l.found))
