use Rattle.olr_map.proofs.Common.{arith, common_steps}
use Rattle.olr_map.proofs.Using.{drop_refused, drop_taken, unused_by_lists, used_by_in, used_by_out}
use Rattle.olr_map.proofs.judging.judge_node_dropped.Goals as goal

pub returns-then-not-is_empty : goal.returns-then-not-is_empty
returns-then-not-is_empty g c = grind (arith, common_steps, used_by_out, used_by_in, drop_refused)

pub returns : goal.returns
returns g c = grind (arith, common_steps, unused_by_lists, drop_taken)
