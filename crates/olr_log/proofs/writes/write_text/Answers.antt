use Rattle.olr_log.proofs.NativeTexts.{begun}
use Rattle.olr_log.proofs.Common.{on_ok_weaker}
use Rattle.olr_log.proofs.writes.write_text.Goals as goal

pub returns-clause-seen : goal.returns-clause-seen
returns-clause-seen g c =
    on_ok_weaker c.write_at-2.result (λ written. begun _ _ _ _ c.in_ok-set_len.ensures.len c.in_ok-write_at.ensures.written
    c.write_at.ensures.others written c.write_at-2.ensures.others) c.write_at-2.ensures.written
