use Rattle.olr_log.proofs.Common.{◌≡◌, ◌∙◌, inl, inr, refl, subst, sym, err_from_is_err_and, LostLine, Untouched, IsOfTaking}
use Rattle.olr_input.specs.declared.ends.RunFault.TheVariants as fault
use Rattle.olr_log.proofs.logged.LoggedSessionBuffered.take.Goals as goal

pub returns-in_err-send_before : goal.returns-in_err-send_before
returns-in_err-send_before g c =
    let p = err_from_is_err_and c.from_residual.result c.from_residual.ensures.1 in
    let is : p.0 ≡ fault.Write = p.2 ∙ c.in_err-send_before.ensures.fault in
    rw p.1 (inr ((refl, c.send_before.ensures.passes), is))

pub returns-in_err-take_from : goal.returns-in_err-take_from
returns-in_err-take_from g c =
    let gate = c.send_before.new.self in
    let p = err_from_is_err_and c.from_residual-in_err-take_from.result c.from_residual-in_err-take_from.ensures.1 in
    let same : Untouched gate gate = record { journal = refl; fault = refl; length = refl } in
    let kept : LostLine gate gate = record { untouched = same; due = refl; waits = refl } in
    rw p.1 (inl ((tt, (gate, c.send_before.ensures.passes, kept)), subst IsOfTaking (sym p.2) c.in_err-take_from.ensures.1))

pub returns-in_err-take : goal.returns-in_err-take
returns-in_err-take g c =
    let gate = c.send_before.new.self in
    let took = c.take.ensures in
    let p = err_from_is_err_and c.from_residual-in_err-take.result c.from_residual-in_err-take.ensures.1 in
    let lost : LostLine gate c.take.new.self = record { untouched = took.untouched; due = took.due; waits = took.waiting } in
    rw p.1 (inl ((tt, (gate, c.send_before.ensures.passes, lost)), subst IsOfTaking (sym p.2) tt))

pub returns : goal.returns
returns g c =
    let took = c.in_ok-take.ensures in (
      (rw c.if-not-branch.false at c.in_ok-take_from.ensures),
      (
        c.send_before.new.self,
        c.send_before.ensures.passes,
        record { untouched = took.untouched; due = took.due; waits = took.waiting; effect = took.effect; line = took.line },
      ),
    )
