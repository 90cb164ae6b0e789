use Rattle.olr_binary.proofs.Common.{arith, rules, to_z-of_z}
use Rattle.olr_binary.proofs.PointLemmas.{first_bytes-parts}
use Rattle.olr_binary.proofs.read.read_first.Goals as goal

pub returns-clause-encoded : goal.returns-clause-encoded
returns-clause-encoded c = search (rules, arith, to_z-of_z, first_bytes-parts)
