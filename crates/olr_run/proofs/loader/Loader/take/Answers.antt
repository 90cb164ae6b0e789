use Rattle.olr_run.proofs.Common.{command_of, IsLogged, Loaded, Refuses, ◌≡◌, ◌∙◌, sym, subst, IfOk-weaker, IfErr-weaker}
use Rattle.olr_run.proofs.loader.Loader.take.Goals as goal

pub returns-in-Ok-clause-loads : goal.returns-in-Ok-clause-loads
returns-in-Ok-clause-loads c =
    let k = command_of c.in-Ok.command in
    IfOk-weaker c.carry_out.result (λ _. IsLogged k × Loaded c.args.self.now k c.carry_out.new.self) _
    (λ _ h. (k, c.in-Ok.ensures, h.0, h.1)) c.carry_out.ensures.loaded

pub returns-in-Ok-clause-refused : goal.returns-in-Ok-clause-refused
returns-in-Ok-clause-refused c =
    IfErr-weaker c.carry_out.result _ _ (λ e refuses is k read stored.
    let same : command_of c.in-Ok.command ≡ k = (let both = sym c.in-Ok.ensures ∙ read in cc) in
    subst (Refuses c.args.self.now) same (refuses is (subst IsLogged (sym same) stored))) c.carry_out.ensures.refused
