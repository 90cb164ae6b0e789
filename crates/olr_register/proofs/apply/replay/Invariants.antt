use Rattle.olr_register.proofs.Runs.{HasRun}
use Rattle.olr_register.proofs.apply.replay.Given as goal

abbrev pub invariant-loop-command : goal.invariant-loop-command
invariant-loop-command l = HasRun l.register l.yielded l.outcomes.items
