use Rattle.olr_register.proofs.Common.{◌≡◌, ◌++◌, take, flat_map, record_line, path_change, items, all_named}
use Rattle.olr_register.proofs.dumps.push_paths.Given as goal

abbrev pub invariant-loop-k : goal.invariant-loop-k
invariant-loop-k l =
    l.text.items ≡ l.initial.text.items
    ++ flat_map (λ p. record_line (path_change p)) (take l.k (all_named (items l.fn.paths)))
