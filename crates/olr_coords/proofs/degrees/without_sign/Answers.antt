use Rattle.olr_spec.proofs.Common.{arith}
use Rattle.std.proofs.lemmas.Grind.{common_steps}
use Rattle.olr_coords.proofs.degrees.without_sign.Goals as goal

pub returns : goal.returns
returns c = grind (arith, common_steps)
