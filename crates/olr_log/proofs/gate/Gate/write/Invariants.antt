use Rattle.olr_log.proofs.Common.{length, ◌-◌}
use Rattle.olr_log.specs.Gates.{Closes}
use Rattle.olr_log.proofs.Passing.{Passed}
use Rattle.olr_log.proofs.gate.Gate.write.Given as goal

abbrev pub invariant-loop-written : goal.invariant-loop-written
invariant-loop-written g l = record {
  passed : Passed g.J.Journal.stored g.J.Journal.may_leave g.W.Write.contents l.initial.self l.initial.output l.self l.output l.text l.written;
  closes : Closes g.J.Journal l.initial.self l.self;
}

abbrev pub decreases-loop-written : goal.decreases-loop-written
decreases-loop-written g l = length l.text - l.written
