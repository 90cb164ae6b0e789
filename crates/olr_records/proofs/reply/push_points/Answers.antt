use Rattle.olr_records.proofs.Common.{arith, middle_line}
use Rattle.olr_records.proofs.TextLemmas.{lines_more}
use Rattle.olr_records.proofs.reply.push_points.Goals as goal

pub loop-point-preserved : goal.loop-point-preserved
loop-point-preserved c = grind (arith, lines_more middle_line)
