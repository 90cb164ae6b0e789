use Rattle.olr_records.proofs.Common.{concat, name_line, string_bytes, ◌≡◌, ◌++◌, map, take}
use Rattle.olr_records.proofs.reply.push_names.Given as goal

abbrev pub invariant-loop-name : goal.invariant-loop-name
invariant-loop-name l =
    l.text.items
    ≡ l.initial.text.items ++ concat (map (λ n. name_line (string_bytes n)) (take l.name-index l.names))
