use Rattle.olr_laws.proofs.RunLemmas.{next_continues, two_runs}
use Rattle.olr_laws.proofs.laws.laws_of_logs.Goals as goal

pub returns-clause-next : goal.returns-clause-next
returns-clause-next g c = next_continues

pub returns-clause-two : goal.returns-clause-two
returns-clause-two g c = two_runs g.D.Disk g.G.Folder g.W.Write.contents
