use Rattle.olr_register.proofs.Common.{sym, subst, items, content_on, accepted_map, PublishedWhole}
use Rattle.olr_register.proofs.Replies.{results_found}
use Rattle.olr_register.proofs.register.Register.published_of.Goals as goal

pub returns : goal.returns
returns c =
    let M = accepted_map c.self.inside.roads c.self.inside.batch in
    let is = items c.self.inside.paths in
    rw (← c.self.view_is) (subst (PublishedWhole (content_on c.self.inside.margin M is) c.args.name.now) (sym c.published_of.ensures)
    (results_found c.self.inside.margin M is c.args.name.now c.self.invariant.register.encoded))
