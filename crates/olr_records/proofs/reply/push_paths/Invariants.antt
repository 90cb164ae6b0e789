use Rattle.olr_records.proofs.Common.{concat, entry_line, entry_of, ◌≡◌, ◌++◌, map, take}
use Rattle.olr_records.proofs.reply.push_paths.Given as goal

abbrev pub invariant-loop-entry : goal.invariant-loop-entry
invariant-loop-entry l =
    l.text.items
    ≡ l.initial.text.items ++ concat (map (λ e. entry_line (entry_of e)) (take l.entry-index l.entries))
