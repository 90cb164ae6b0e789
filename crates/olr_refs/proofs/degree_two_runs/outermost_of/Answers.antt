use Rattle.olr_refs.proofs.Common.{arith, length-map, last_index}
use Rattle.olr_refs.proofs.Resolving.{record_at}
use Rattle.olr_refs.proofs.degree_two_runs.outermost_of.Goals as goal

pub returns-in-Along : goal.returns-in-Along
returns-in-Along c = grind (arith, length-map, record_at, last_index)
