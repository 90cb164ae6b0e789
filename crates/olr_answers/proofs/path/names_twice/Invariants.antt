use Rattle.olr_answers.proofs.Distinct.{AscendsBelow}
use Rattle.olr_answers.proofs.path.names_twice.Given as goal

-- the numbers compared so far are strictly increasing
abbrev pub invariant-loop-i : goal.invariant-loop-i
invariant-loop-i l = AscendsBelow l.sorted.items l.i
