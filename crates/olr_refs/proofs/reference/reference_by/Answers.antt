use Rattle.olr_refs.proofs.Common.{sym, subst, arith, IsReference}
use Rattle.olr_refs.proofs.PointLemmas.{reference_read}
use Rattle.olr_refs.proofs.Trimming.{linked_end}
use Rattle.olr_refs.proofs.reference.reference_by.Goals as goal

pub returns : goal.returns
returns g c = grind (arith, reference_read)

pub invariant_of-result : goal.invariant_of-result
invariant_of-result g c = subst IsReference (sym (returns g c)) c.requires.fits

pub first_point-requires : goal.first_point-requires
first_point-requires g c = record { candidate = c.requires.kept.linked 0 (omega arith) }

pub last_point-requires : goal.last_point-requires
last_point-requires g c = record { candidate = linked_end _ _ _ _ c.requires.kept.linked c.requires.kept.two }
