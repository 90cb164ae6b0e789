use Rattle.olr_register.proofs.Common.{items, accepted_map}
use Rattle.olr_register.proofs.Asking.{right_encoded, all_published}
use Rattle.olr_register.proofs.register.Register.iter.Goals as goal

pub iter-requires : goal.iter-requires
iter-requires c = record { encoded = right_encoded c.self.inside c.self.invariant }

pub returns : goal.returns
returns c =
    let r = c.self.inside in
    rw (← c.self.view_is, c.iter.ensures)
    (all_published r.margin (accepted_map r.roads r.batch) (items r.paths) c.self.invariant.register.encoded)
