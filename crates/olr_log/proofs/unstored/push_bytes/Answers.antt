use Rattle.olr_log.proofs.Common.{arith}
use Rattle.std.proofs.lemmas.Grind.{common_steps}
use Rattle.olr_log.proofs.unstored.push_bytes.Goals as goal

pub returns-then-ends_line : goal.returns-then-ends_line
returns-then-ends_line c = grind (arith, common_steps)

pub loop-i-preserved : goal.loop-i-preserved
loop-i-preserved c = grind (arith, common_steps)

pub returns : goal.returns
returns c = grind (arith, common_steps)
