use Rattle.olr_records.proofs.Common.{arith, entry_line, entry_of, nil_from_length}
use Rattle.olr_records.proofs.OnLiterals.{on_literals}
use Rattle.olr_records.proofs.TextLemmas.{lines_more}
use Rattle.olr_records.proofs.reply.push_paths.Goals as goal

pub returns-then-is_empty : goal.returns-then-is_empty
unfolding on_literals
returns-then-is_empty c = grind (arith, nil_from_length)

pub loop-entry-preserved : goal.loop-entry-preserved
loop-entry-preserved c = grind (arith, lines_more (λ e. entry_line (entry_of e)))
