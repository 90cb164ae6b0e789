use Rattle.olr_run.proofs.Common.{most_records, ◌≤◌, ◌-◌}
use Rattle.olr_run.proofs.Running.{SoFar}
use Rattle.olr_run.proofs.records.run_session.Given as goal

-- the records so far were answered
abbrev pub invariant-records : goal.invariant-records
invariant-records g l =
    (l.answered ≤ most_records)
    × SoFar g.S.Session.happens l.fn.stop l.fn.register (l.fn.session, l.fn.output) l.register (l.session, l.output)
    l.status l.answered

abbrev pub decreases-records : goal.decreases-records
decreases-records g l = most_records - l.answered
