use Rattle.olr_spec.proofs.Common.{arith, to_z-of_z}
use Rattle.olr_commands.proofs.RecordLemmas.{commas_two}
use Rattle.olr_commands.proofs.record_text.push_coord.Goals as goal

pub returns : goal.returns
returns c = grind (arith, to_z-of_z, commas_two)
