use Rattle.olr_register.proofs.Common.{ap, option_map, items, Registered, accepted_map}
use Rattle.olr_register.proofs.Asking.{text_published}
use Rattle.olr_register.proofs.register.Register.text.Goals as goal

pub returns-in_err-shown : goal.returns-in_err-shown
returns-in_err-shown c =
    let r = c.self.inside in
    text_published r.margin (accepted_map r.roads r.batch) (items r.paths) _ c.args.name.now _ _
    (ap (λ (x : Registered). x.state.content) c.self.view_is) c.self.invariant.register.encoded
    c.in_err-shown.ensures (ap (option_map (λ t. _)) c.from_residual.ensures)

pub returns : goal.returns
returns c =
    let r = c.self.inside in
    text_published r.margin (accepted_map r.roads r.batch) (items r.paths) _ c.args.name.now _ _
    (ap (λ (x : Registered). x.state.content) c.self.view_is) c.self.invariant.register.encoded
    c.in_ok-shown.ensures c.text.ensures
