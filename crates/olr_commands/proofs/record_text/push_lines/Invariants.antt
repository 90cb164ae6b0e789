use Rattle.olr_commands.proofs.Common.{decimal, after_commas}
use Rattle.std.proofs.Common.{◌≡◌, ◌++◌, map, take}
use Rattle.olr_commands.proofs.record_text.push_lines.Given as goal

abbrev pub invariant-loop-line : goal.invariant-loop-line
invariant-loop-line l = l.text.items ≡ l.initial.text.items ++ after_commas (map decimal (take l.line-index l.lines))
