use Rattle.olr_laws.proofs.ElsewhereRowLemmas.{theirs_are_ours, recovered_there, recovered_roads}
use Rattle.olr_laws.proofs.margins.rows_elsewhere.Goals as goal

pub returns-clause-ours : goal.returns-clause-ours
returns-clause-ours c = theirs_are_ours

pub returns-clause-recovered : goal.returns-clause-recovered
returns-clause-recovered c = recovered_there

pub returns-clause-split : goal.returns-clause-split
returns-clause-split c = recovered_roads
