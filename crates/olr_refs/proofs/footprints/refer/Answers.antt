use Rattle.olr_refs.proofs.footprints.refer.Goals as goal

pub returns-clause-settled : goal.returns-clause-settled
returns-clause-settled g c = rw c.none.ensures at c.refer_with.ensures.settled
