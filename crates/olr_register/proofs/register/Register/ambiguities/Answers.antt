use Rattle.olr_register.proofs.Common.{refl, No_memory, Lacks_memory}
use Rattle.olr_register.proofs.WithoutBatch.{open_refused, shut_answered, shut_refused, shut_right}
use Rattle.olr_register.proofs.register.Register.ambiguities.Goals as goal

pub returns-then-is_some : goal.returns-then-is_some
returns-then-is_some c = open_refused c.self.inside c.self.view_is c.if-is_some.ensures (λ d xs. refl)

pub returns-in_err-nodes : goal.returns-in_err-nodes
returns-in_err-nodes c =
    shut_refused c.self.inside c.self.view_is c.if-is_some.ensures No_memory c.from_residual.ensures.1 (Lacks_memory refl refl)

pub returns-in_err-grid : goal.returns-in_err-grid
returns-in_err-grid c =
    shut_refused c.self.inside c.self.view_is c.if-is_some.ensures No_memory c.from_residual-in_err-grid.ensures.1
    (Lacks_memory refl refl)

pub all_ambiguities-requires-clause-encoded : goal.all_ambiguities-requires-clause-encoded
all_ambiguities-requires-clause-encoded c = (shut_right c.self.inside c.if-is_some.ensures c.self.invariant).register.encoded

pub returns-in_err-all : goal.returns-in_err-all
returns-in_err-all c =
    rw (← c.self.view_is) (shut_refused c.self.inside refl c.if-is_some.ensures No_memory c.from_residual-in_err-all.ensures.1
    (Lacks_memory refl refl))

pub returns : goal.returns
returns c =
    rw (← c.self.view_is) (shut_answered c.self.inside refl c.if-is_some.ensures refl (refl, c.in_ok-all.ensures))
