use Rattle.olr_register.proofs.Common.{refl, Set_margin, append-nil, record_line, No_memory, Records}
use Rattle.olr_commands.specs.Reply.{Lacks}
use Rattle.olr_register.proofs.Outcomes.{answered_same, refused_same}
use Rattle.olr_register.proofs.register.Register.show_margin.Goals as goal

pub returns : goal.returns
returns c =
    let text = rw (c.new-text.ensures.items, ← append-nil (record_line (Set_margin c.self.inside.margin))) at c.in_ok-push_margin_record.ensures in
    rw (← c.self.view_is) (answered_same _ _ _ refl (λ xs. refl) (λ o. (refl, (λ i. Records 1 (text i)))))

pub returns-in_err-push_margin_record : goal.returns-in_err-push_margin_record
returns-in_err-push_margin_record c =
    rw (← c.self.view_is) (refused_same _ _ _ No_memory c.from_residual.ensures.1 (λ o. Lacks refl refl))
