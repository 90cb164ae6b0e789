use Rattle.olr_records.proofs.Common.{arith, obstacle_line, named_obstacle_of}
use Rattle.olr_records.proofs.TextLemmas.{lines_more}
use Rattle.olr_records.proofs.reply.push_obstacles.Goals as goal

pub loop-obstacle-preserved : goal.loop-obstacle-preserved
loop-obstacle-preserved c = grind (arith, lines_more (λ e. obstacle_line (named_obstacle_of e)))
