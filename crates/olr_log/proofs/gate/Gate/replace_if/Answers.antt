use Rattle.olr_log.proofs.Common.{arith}
use Rattle.olr_log.proofs.Compacting.{asked, compacts_broken, compacts_closed}
use Rattle.olr_log.proofs.gate.Gate.replace_if.Goals as goal

pub returns-in-Ok-true-clause-compacts : goal.returns-in-Ok-true-clause-compacts
returns-in-Ok-true-clause-compacts g c = grind (arith, asked)

pub returns-in-Ok-false-clause-compacts : goal.returns-in-Ok-false-clause-compacts
returns-in-Ok-false-clause-compacts g c = grind (arith, asked)

pub returns-in-Err-clause-compacts : goal.returns-in-Err-clause-compacts
returns-in-Err-clause-compacts g c = grind (arith, asked)

pub returns-else-is_in_place-clause-compacts : goal.returns-else-is_in_place-clause-compacts
returns-else-is_in_place-clause-compacts g c = grind (arith, compacts_broken, compacts_closed)
