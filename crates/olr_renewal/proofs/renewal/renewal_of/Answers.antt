use Rattle.olr_renewal.proofs.Common.{IfOk-weaker}
use Rattle.olr_renewal.proofs.renewal.renewal_of.Goals as goal

pub returns-then-update-clause-renewed : goal.returns-then-update-clause-renewed
returns-then-update-clause-renewed g c =
    let b = (rw c.if-update.true at c.requires).before in
    rw c.if-update.true
    (IfOk-weaker c.renewal_of_all.result _ _ (λ r h. h b.0 c.args.update.now.touched.now b.1) c.renewal_of_all.ensures)

pub renewal_of_some-requires : goal.renewal_of_some-requires
renewal_of_some-requires g c = rw c.if-update.false at c.requires

pub returns-clause-renewed : goal.returns-clause-renewed
returns-clause-renewed g c = rw c.if-update.false c.renewal_of_some.ensures.renewed
