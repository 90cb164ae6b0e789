use Rattle.olr_register.proofs.Common.{refl, sym, ByState, No_memory, Lacks_memory}
use Rattle.olr_register.proofs.WithoutBatch.{open_refused, shut_answered, shut_refused}
use Rattle.olr_register.proofs.register.Register.ambiguity.Goals as goal

pub returns-then-is_some : goal.returns-then-is_some
returns-then-is_some c = open_refused c.self.inside c.self.view_is c.if-is_some.ensures (λ d xs. refl)

pub returns-in_default : goal.returns-in_default
returns-in_default c =
    shut_refused c.self.inside c.self.view_is c.if-is_some.ensures _ refl (ByState (rw (← c.in_default.ensures)))

pub returns-in_err-found : goal.returns-in_err-found
returns-in_err-found c =
    rw (← c.self.view_is) (shut_refused c.self.inside refl c.if-is_some.ensures No_memory c.from_residual.ensures.1
    (Lacks_memory refl (rw (← c.in-Some.ensures))))

pub returns-in_err-push_found : goal.returns-in_err-push_found
returns-in_err-push_found c =
    rw (← c.self.view_is) (shut_refused c.self.inside refl c.if-is_some.ensures No_memory
    c.from_residual-in_err-push_found.ensures.1 (Lacks_memory refl (rw (← c.in-Some.ensures))))

pub returns : goal.returns
returns c =
    rw (← c.self.view_is) (shut_answered c.self.inside refl c.if-is_some.ensures refl (
      rw (← c.in-Some.ensures),
      (
        c.in-Some.path.now,
        sym c.in-Some.ensures,
        rw (
          c.in_ok-push_found.ensures,
          c.new-own.ensures.items,
          c.deref.ensures.value,
        ) (c.in_ok-found.ensures c.args.name.now),
      ),
    ))
