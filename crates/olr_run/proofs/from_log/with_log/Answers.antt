-- How a run from a log ends, from the contracts of its parts.
use Rattle.olr_run.proofs.Common.{◌∙◌, ap, refl, is_rejected, is_oversized, Not_begun, Begun, run_code}
use Rattle.olr_run.proofs.FromLogs.{closed_run, on_true}
use Rattle.olr_run.proofs.from_log.with_log.Goals as goal

pub returns-in-Err-clause-ends : goal.returns-in-Err-clause-ends
returns-in-Err-clause-ends g c = λ records begins. rw c.in-Err.is (refl, refl, c.report_unopened.ensures)

pub returns-in-Err-begin_with-clause-ends : goal.returns-in-Err-begin_with-clause-ends
returns-in-Err-begin_with-clause-ends g c = λ records begins.
    rw c.in-Ok.is
    (_, refl, Not_begun refl (is_rejected c.in-Err-begin_with.fault) (is_oversized c.in-Err-begin_with.fault) c.report_start.ensures c.in-Err-begin_with.ensures.unbegun)

pub returns-clause-ends : goal.returns-clause-ends
returns-clause-ends g c = λ records begins.
    let r = c.run_with_log-ended in
    let begun = c.in-Ok-begin_with.ensures.begun in
    let after = c.close_log-log.ensures in
    rw c.in-Ok.is (
      _,
      refl,
      Begun begun.0 c.begin_with.new.log c.in-Ok-begin_with.begun.0 r.new.register begun.1 r.result.0
          (closed_run g.W.Write.contents c.begin_with.new.log c.close_log-log.result c.args.output.now r.new.output r.result.1
          r.result.0 after c.args.run.now.stop c.in-Ok-begin_with.begun.0 r.new.register records (r.ensures.ended records begins))
          r.result.1 r.ensures.through after
          (c.log_status-status.ensures.code ∙ ap (run_code r.result.0) c.is_open-in_batch.ensures),
    )

pub returns-clause-sent : goal.returns-clause-sent
returns-clause-sent g c = λ low.
    on_true c.run_with_log-ended.result.0 _ c.run_with_log-ended.ensures.sent (c.log_status-status.ensures.whole low)
