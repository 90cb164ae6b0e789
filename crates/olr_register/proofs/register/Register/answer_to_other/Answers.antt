use Rattle.olr_register.proofs.register.Register.answer_to_other.Goals as goal

pub returns-in-Explain : goal.returns-in-Explain
returns-in-Explain c = rw (c.in-Explain.is, ← c.deref-in-Explain.ensures.value) c.explain.ensures
