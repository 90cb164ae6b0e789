use Rattle.olr_run.proofs.Common.{IfOk-weaker, IfErr-weaker, err_from_is_err_and, subst, arith, fields_of, Content, Represents}
use Rattle.olr_run.proofs.Common.{closed, records_of}
use Rattle.olr_run.proofs.LogRecords.{is_content, same_content}
use Rattle.olr_run.proofs.Refusing.{none_leads, open_leads}
use Rattle.olr_run.proofs.Restoring.{loading_start, loading_many, loading_more, loading_end}
use Rattle.olr_run.proofs.loader.restore.Goals as goal

pub records-init : goal.records-init
records-init c = record {
  few = omega arith;
  loading = loading_start (records_of c.args.text.now) c.new-records.result c.new-loader.result c.new-records.ensures.left
      c.new-loader.ensures;
}

pub records-preserved : goal.records-preserved
records-preserved c = record {
  few = omega (arith, c.records.invariant.few, c.if-progress-eq-MOST_RECORDS.false);
  loading = loading_more (records_of c.args.text.now) c.records.records c.next.new.self c.records.loader c.take.new.self c.records.progress.taken
      (fields_of c.next.new.row) c.records.invariant.loading (rw c.if-branch.true at c.in_ok-next.ensures.takes)
      c.in_ok-take.ensures.loads;
}

pub returns-clause-content : goal.returns-clause-content
returns-clause-content c =
    IfOk-weaker c.finish.result _ _ (λ r finished.
    loading_end c.args.text.now c.records.records c.records.loader r c.records.progress.taken c.records.invariant.loading
    (rw c.if-branch.false at c.in_ok-next.ensures.takes) finished) c.finish.ensures.finished

pub returns-clause-leads : goal.returns-clause-leads
returns-clause-leads c =
    IfOk-weaker c.finish.result _ _ (λ r finished d l.
    let e =
    loading_end c.args.text.now c.records.records c.records.loader r c.records.progress.taken c.records.invariant.loading
    (rw c.if-branch.false at c.in_ok-next.ensures.takes) finished in
    subst (λ (x : Content). Represents r.state (closed x))
    (same_content c.args.text.now e.0 d e.1 (is_content c.args.text.now d l)) e.2) c.finish.ensures.finished

pub returns-clause-refused : goal.returns-clause-refused
returns-clause-refused c =
    IfErr-weaker c.finish.result _ _ (λ e refused is.
    open_leads c.args.text.now c.records.records c.records.loader c.records.progress.taken c.records.invariant.loading
    (rw c.if-branch.false at c.in_ok-next.ensures.takes) (refused is)) c.finish.ensures.refused

pub returns-in_err-take-clause-refused : goal.returns-in_err-take-clause-refused
returns-in_err-take-clause-refused c =
    let p = err_from_is_err_and c.from_residual-in_err-take.result c.from_residual-in_err-take.ensures.1 in
    rw p.1
    (rw p.2 (λ is.
    none_leads c.args.text.now c.records.records c.next.new.self c.records.loader c.records.progress.taken (fields_of c.next.new.row)
    c.records.invariant.loading (rw c.if-branch.true at c.in_ok-next.ensures.takes) (c.in_err-take.ensures.refused is)))

pub returns-then-progress-eq-MOST_RECORDS-clause-many : goal.returns-then-progress-eq-MOST_RECORDS-clause-many
returns-then-progress-eq-MOST_RECORDS-clause-many c is =
    let many =
    loading_many (records_of c.args.text.now) c.records.records c.next.new.self c.records.loader c.records.progress.taken
    (fields_of c.next.new.row) c.records.invariant.loading (rw c.if-branch.true at c.in_ok-next.ensures.takes) in
    omega (arith, many, c.if-progress-eq-MOST_RECORDS.true)
