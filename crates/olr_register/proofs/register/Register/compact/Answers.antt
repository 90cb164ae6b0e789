use Rattle.olr_register.proofs.Common.{refl}
use Rattle.olr_register.proofs.WithoutBatch.{open_refused, shut_answered}
use Rattle.olr_register.proofs.register.Register.compact.Goals as goal

pub returns-then-is_some : goal.returns-then-is_some
returns-then-is_some c = open_refused c.self.inside c.self.view_is c.if-is_some.ensures (λ d xs. refl)

pub returns : goal.returns
returns c =
    shut_answered c.self.inside c.self.view_is c.if-is_some.ensures refl (refl, rw c.new.ensures.items)
