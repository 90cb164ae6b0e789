-- Each end of a run, from the records so far.
use Rattle.olr_run.proofs.Common.{fields_of, arith, err_from_is_err_and}
use Rattle.olr_run.proofs.Running.{so_far_none, accepted_so_far, refused_so_far, ran_whole, ran_stopped, cut_in_taking}
use Rattle.olr_run.proofs.Running.{cut_past, cut_in_answer}
use Rattle.olr_run.proofs.records.run_session.Goals as goal

pub records-init : goal.records-init
records-init g c = (omega arith, so_far_none g.S.Session.happens _ _ _ c.is_sound.ensures)

pub returns-clause-ran : goal.returns-clause-ran
returns-clause-ran g c =
    ran_whole g.S.Session.happens _ _ _ c.is_sound.ensures _ _ _ _ c.records.invariant.1 _
    (rw c.if-branch.false at c.in_ok-take.ensures)

pub returns-in_err-take-clause-cut : goal.returns-in_err-take-clause-cut
returns-in_err-take-clause-cut g c =
    let p = err_from_is_err_and c.from_residual.result c.from_residual.ensures.1 in
    rw p.1
    (rw p.2
    (cut_in_taking g.S.Session.happens _ _ _ c.is_sound.ensures _ _ _ _ c.records.invariant.1 _ _ c.in_err-take.ensures))

pub returns-then-answered-eq-MOST_RECORDS-clause-cut : goal.returns-then-answered-eq-MOST_RECORDS-clause-cut
returns-then-answered-eq-MOST_RECORDS-clause-cut g c =
    cut_past g.S.Session.happens _ _ _ c.is_sound.ensures _ _ _ _ c.records.invariant.1 _ (fields_of c.take.new.row.fields)
    c.if-answered-eq-MOST_RECORDS.true (rw c.if-branch.true at c.in_ok-take.ensures)

pub returns-in_err-accepted-clause-cut : goal.returns-in_err-accepted-clause-cut
returns-in_err-accepted-clause-cut g c =
    let p = err_from_is_err_and c.from_residual-in_err-accepted.result c.from_residual-in_err-accepted.ensures.1 in
    rw p.1
    (rw p.2
    (cut_in_answer g.S.Session.happens _ _ _ c.is_sound.ensures _ _ _ _ c.records.invariant.1 _ _ _
    (fields_of c.take.new.row.fields) (rw c.if-branch.true at c.in_ok-take.ensures) _ c.in_err-accepted.ensures))

pub returns-then-stop-clause-ran : goal.returns-then-stop-clause-ran
returns-then-stop-clause-ran g c =
    let d = c.compact_log.ensures in
    ran_stopped g.S.Session.happens _ _ _ c.is_sound.ensures _ _ _ _ c.records.invariant.1 _ _ _
    (fields_of c.take.new.row.fields) (rw c.if-branch.true at c.in_ok-take.ensures) c.in_ok-accepted.accepted _
    c.if-not-accepted.true c.if-stop.true c.in_ok-accepted.ensures (d.0, d.1, d.2 c.write_outcome.new.output)

pub records-preserved-then-not-accepted : goal.records-preserved-then-not-accepted
records-preserved-then-not-accepted g c =
    let d = c.compact_log.ensures in
    let below = c.if-answered-eq-MOST_RECORDS.false in
    let most = c.records.invariant.0 in (
      omega (arith, below, most),
      refused_so_far g.S.Session.happens _ _ _ c.is_sound.ensures _ _ _ _ c.records.invariant.1 _ _ _
          (fields_of c.take.new.row.fields) (rw c.if-branch.true at c.in_ok-take.ensures) c.in_ok-accepted.accepted _
          c.if-not-accepted.true c.if-stop.false c.in_ok-accepted.ensures (d.0, d.1, d.2 c.write_outcome.new.output),
    )

pub records-preserved : goal.records-preserved
records-preserved g c =
    let d = c.compact_log.ensures in
    let below = c.if-answered-eq-MOST_RECORDS.false in
    let most = c.records.invariant.0 in (
      omega (arith, below, most),
      accepted_so_far g.S.Session.happens _ _ _ c.is_sound.ensures _ _ _ _ c.records.invariant.1 _ _ _
          (fields_of c.take.new.row.fields) (rw c.if-branch.true at c.in_ok-take.ensures) c.in_ok-accepted.accepted _
          c.if-not-accepted.false c.in_ok-accepted.ensures (d.0, d.1, d.2 c.write_outcome.new.output),
    )
