use Rattle.olr_register.proofs.Common.{Some, ap, ◌∙◌, option_map, Answer, Results, items, Registered, accepted_map}
use Rattle.olr_register.proofs.Asking.{answer_published}
use Rattle.olr_register.proofs.register.Register.answer.Goals as goal

pub returns-in_err-published : goal.returns-in_err-published
returns-in_err-published c =
    let r = c.self.inside in
    answer_published r.margin (accepted_map r.roads r.batch) (items r.paths) _ c.args.name.now _
    (ap (λ (x : Registered). x.state.content) c.self.view_is) c.self.invariant.register.encoded
    (ap (option_map (λ a. _)) c.from_residual.ensures
    ∙ ap (option_map (λ (m : Results). m.answer)) c.in_err-published.ensures)

pub returns : goal.returns
returns c =
    let r = c.self.inside in
    answer_published r.margin (accepted_map r.roads r.batch) (items r.paths) _ c.args.name.now _
    (ap (λ (x : Registered). x.state.content) c.self.view_is) c.self.invariant.register.encoded
    (ap (λ (a : Answer). Some a) c.answer.ensures ∙ ap (option_map (λ (m : Results). m.answer)) c.in_ok-published.ensures)
