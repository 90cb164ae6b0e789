use Rattle.olr_register.proofs.Common.{sym, none_of}
use Rattle.olr_register.proofs.register.Register.footprint.Goals as goal

pub returns-clause-footprint : goal.returns-clause-footprint
returns-clause-footprint c =
    rw (← c.self.view_is, none_of c.self.inside.batch (sym c.if-is_some.ensures), ← c.in-Some.ensures)
    c.in_ok-footprint.ensures.footprint
