use Rattle.olr_register.proofs.Common.{refl, ByContent, Lacks}
use Rattle.olr_register.proofs.Changing.{bad_path_last}
use Rattle.olr_register.proofs.change.path_unless.Goals as goal

pub returns-then-wrong-clause-fault : goal.returns-then-wrong-clause-fault
returns-then-wrong-clause-fault c = λ d. rw c.if-wrong.true (ByContent refl)

pub returns-in-Ok-clause-lacks : goal.returns-in-Ok-clause-lacks
returns-in-Ok-clause-lacks c = λ d. rw c.if-wrong.false (Lacks refl (bad_path_last _ d))

pub returns-in-Err-BadPath-clause-fault : goal.returns-in-Err-BadPath-clause-fault
returns-in-Err-BadPath-clause-fault c = λ d.
    let e = rw c.in-Err-BadPath.field-0-is at c.in-Err-BadPath.ensures in
    rw (c.if-wrong.false, e.bad_path refl) (ByContent refl)

pub returns-in-Err-Memory-clause-fault : goal.returns-in-Err-Memory-clause-fault
returns-in-Err-Memory-clause-fault c = λ d. rw c.if-wrong.false (Lacks refl (bad_path_last _ d))
