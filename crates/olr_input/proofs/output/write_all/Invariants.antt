use Rattle.olr_input.proofs.Common.{length, ◌-◌}
use Rattle.olr_input.proofs.Writing.{Written}
use Rattle.olr_input.proofs.output.write_all.Given as goal

abbrev pub invariant-loop-written : goal.invariant-loop-written
invariant-loop-written g l =
    Written (g.W.Write.contents l.initial.output) (g.W.Write.contents l.output) l.bytes l.written

abbrev pub decreases-loop-written : goal.decreases-loop-written
decreases-loop-written g l = length l.bytes - l.written
