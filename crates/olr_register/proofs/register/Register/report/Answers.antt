use Rattle.olr_register.proofs.Common.{refl, items, accepted_map, No_memory, Lacks_memory}
use Rattle.olr_register.proofs.Asking.{right_encoded, some_named}
use Rattle.olr_register.proofs.Outcomes.{answered_same, refused_same}
use Rattle.olr_register.proofs.Replies.{reported_all}
use Rattle.olr_register.proofs.register.Register.report.Goals as goal

pub entries-requires : goal.entries-requires
entries-requires c = record { encoded = right_encoded c.self.inside c.self.invariant }

pub returns : goal.returns
returns c =
    let r = c.self.inside in
    rw (← c.self.view_is) (answered_same _ _ _ refl (λ xs. refl) (λ o. (
      refl,
      reported_all r.margin (accepted_map r.roads r.batch) (items r.paths) _
          c.self.invariant.register.encoded c.in_ok-entries.ensures.reported,
    )))

pub returns-in_err-entries : goal.returns-in_err-entries
returns-in_err-entries c =
    rw (← c.self.view_is) (refused_same _ _ _ No_memory c.from_residual.ensures.1
    (λ o. Lacks_memory refl (rw (some_named (items c.self.inside.paths) c.in_err-entries.ensures.lacks))))
