use Rattle.olr_register.proofs.Common.{refl, sym, ap, ◌∙◌, is_some, option_map, Answer, Option, Results, items, accepted_map}
use Rattle.olr_register.proofs.Common.{ByState}
use Rattle.olr_paths.specs.Items.{results_of}
use Rattle.olr_commands.specs.Reply.{Lacks}
use Rattle.olr_commands.specs.declared.fault.CommandFault.TheVariants.{Memory}
use Rattle.olr_register.proofs.Asking.{found_if_there}
use Rattle.olr_register.proofs.Outcomes.{answered_same, refused_same}
use Rattle.olr_register.proofs.Replies.{answer_held}
use Rattle.olr_register.proofs.register.Register.show.Goals as goal

pub returns-in_default : goal.returns-in_default
returns-in_default c =
    let r = c.self.inside in
    let there = found_if_there r.margin (accepted_map r.roads r.batch) (items r.paths) c.args.name.now
    c.self.invariant.register.encoded ∙ ap (λ (o : Option Results). is_some o) (sym c.in_default.ensures) in
    rw (← c.self.view_is) (refused_same _ _ _ _ refl (λ o. ByState (rw there)))

pub returns-in_err-entry_alone : goal.returns-in_err-entry_alone
returns-in_err-entry_alone c =
    let r = c.self.inside in
    let there = found_if_there r.margin (accepted_map r.roads r.batch) (items r.paths) c.args.name.now
    c.self.invariant.register.encoded ∙ ap (λ (o : Option Results). is_some o) (sym c.in-Some.ensures) in
    rw (← c.self.view_is) (refused_same _ _ _ Memory c.from_residual.ensures.1 (λ o. Lacks refl (rw there)))

pub returns : goal.returns
returns c =
    let r = c.self.inside in
    let h = c.self.invariant.register in
    let A : Answer = (results_of c.in-Some.published.now).answer in
    let there = found_if_there r.margin (accepted_map r.roads r.batch) (items r.paths) c.args.name.now
    h.encoded ∙ ap (λ (o : Option Results). is_some o) (sym c.in-Some.ensures) in
    rw (← c.self.view_is) (answered_same _ _ _ refl (λ xs. refl) (λ o. (
      rw there,
      (
        A,
        (answer_held r.margin (accepted_map r.roads r.batch) (items r.paths) h.content h.encoded c.args.name.now A).1
            (ap (option_map (λ (m : Results). m.answer)) (sym c.in-Some.ensures)),
        rw c.in_ok-entry_alone.ensures,
      ),
    )))
