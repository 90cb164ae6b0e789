use Rattle.olr_register.proofs.Common.{◌≡◌, ◌++◌, take, flat_map, line_at, map_of, record_line, line_change}
use Rattle.olr_register.proofs.dumps.push_lines.Given as goal

abbrev pub invariant-loop-id : goal.invariant-loop-id
invariant-loop-id l =
    l.text.items ≡ l.initial.text.items
    ++ flat_map (λ x. record_line (line_change (x, line_at (map_of l.fn.roads) x))) (take l.id-index l.ids)
