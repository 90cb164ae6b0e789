use Rattle.olr_register.proofs.Common.{ap, sym, ◌∙◌, items, slice_get}
use Rattle.olr_register.proofs.Listed.{names_of_all}
use Rattle.olr_register.proofs.register.Register.name_at.Goals as goal

pub returns : goal.returns
returns c =
    rw (← c.self.view_is)
    (c.name_at.ensures ∙ ap (λ ns. slice_get ns c.args.k) (sym (names_of_all (items c.self.inside.paths))))
