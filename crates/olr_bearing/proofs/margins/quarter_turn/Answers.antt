use Rattle.std.proofs.lemmas.Grind.{common_steps}
use Rattle.olr_spec.proofs.Common.{arith}
use Rattle.olr_bearing.proofs.margins.quarter_turn.Goals as goal

pub overflow_sub-east : goal.overflow_sub-east
overflow_sub-east c = grind (arith, common_steps)

pub returns : goal.returns
returns c = grind (arith, common_steps)
