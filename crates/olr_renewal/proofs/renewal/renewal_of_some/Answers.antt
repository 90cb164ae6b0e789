use Rattle.olr_renewal.proofs.RetainedLemmas.{are_short}
use Rattle.olr_renewal.proofs.renewal.renewal_of_some.Goals as goal

pub find_candidates-requires : goal.find_candidates-requires
find_candidates-requires g c = record { bounds = c.requires.bounds; short = are_short c.requires.before.1 }
