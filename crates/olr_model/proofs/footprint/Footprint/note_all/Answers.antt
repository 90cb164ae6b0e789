use Rattle.olr_model.proofs.Merging.{merged_ascends, merged_has, merged_more}
use Rattle.olr_model.proofs.footprint.Footprint.note_all.Goals as goal

pub invariant_of-self : goal.invariant_of-self
invariant_of-self c = rw (c.in_ok-self-inside.ensures, c.deref.ensures.value) (merged_ascends _ _ c.self.invariant c.requires.ascending)

pub returns-clause-ok : goal.returns-clause-ok
returns-clause-ok c = λ n. rw (c.in_ok-self-inside.ensures, c.deref.ensures.value, c.self.view_is) (merged_has _ _ n)

pub returns-clause-grows : goal.returns-clause-grows
returns-clause-grows c = rw (c.in_ok-self-inside.ensures, c.deref.ensures.value, c.self.view_is) (merged_more _ _)
