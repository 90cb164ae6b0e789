use Rattle.olr_register.proofs.Common.{refl, sym, ◌∙◌, ByState, No_memory, Lacks_memory, Records}
use Rattle.olr_register.proofs.WithoutBatch.{open_refused, shut_answered, shut_refused}
use Rattle.olr_register.proofs.register.Register.show_line.Goals as goal

pub returns-then-is_some : goal.returns-then-is_some
returns-then-is_some c = open_refused c.self.inside c.self.view_is c.if-is_some.ensures (λ d xs. refl)

pub returns-in_default : goal.returns-in_default
returns-in_default c =
    shut_refused c.self.inside c.self.view_is c.if-is_some.ensures _ refl
    (ByState (rw (← c.line.ensures, c.in_default.is)))

pub returns-then-not-has_line_records : goal.returns-then-not-has_line_records
returns-then-not-has_line_records c =
    shut_refused c.self.inside c.self.view_is c.if-is_some.ensures _ refl
    (ByState (rw (sym c.has_line_records.ensures ∙ c.if-not-has_line_records.true, ← c.line.ensures, c.in-Some.is)))

pub returns-in_err-line_records : goal.returns-in_err-line_records
returns-in_err-line_records c =
    shut_refused c.self.inside c.self.view_is c.if-is_some.ensures No_memory c.from_residual.ensures.1
    (Lacks_memory refl (rw (sym c.has_line_records.ensures ∙ c.if-not-has_line_records.false, ← c.line.ensures, c.in-Some.is)))

pub returns : goal.returns
returns c =
    let e = c.in_ok-line_records.ensures in
    shut_answered c.self.inside c.self.view_is c.if-is_some.ensures refl
    (rw (sym c.has_line_records.ensures ∙ c.if-not-has_line_records.false, ← c.line.ensures, c.in-Some.is), λ i. Records (e.0 i) (e.1 i))
