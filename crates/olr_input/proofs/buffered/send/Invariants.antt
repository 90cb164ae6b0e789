use Rattle.olr_input.proofs.Common.{length, ◌-◌}
use Rattle.olr_input.proofs.Writing.{Written}
use Rattle.olr_input.proofs.buffered.send.Given as goal

abbrev pub invariant-loop-sent : goal.invariant-loop-sent
invariant-loop-sent g l =
    Written (g.W.Write.contents l.initial.device) (g.W.Write.contents l.device) l.bytes l.sent

abbrev pub decreases-loop-sent : goal.decreases-loop-sent
decreases-loop-sent g l = length l.bytes - l.sent
