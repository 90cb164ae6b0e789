use Rattle.olr_register.proofs.Common.{refl}
use Rattle.olr_register.proofs.Outcomes.{explain_text, explain_fault}
use Rattle.olr_register.proofs.register.Register.explain.Goals as goal

pub returns-in-Ok : goal.returns-in-Ok
returns-in-Ok c = explain_text c.args.self.now c.args.text.now _ c.in-Ok.reference refl c.in-Ok.ensures.ok

pub returns-in-Err : goal.returns-in-Err
returns-in-Err c =
    explain_fault c.args.self.now c.args.text.now c.in-Err.fault c.text_fault.result c.in-Err.ensures.fault
    c.text_fault.ensures
