use Rattle.olr_log.proofs.Common.{refl}
use Rattle.olr_log.proofs.Passing.{passes_none}
use Rattle.olr_log.proofs.gate.Gate.send_before.Goals as goal

pub returns-then-not-waits-clause-passes : goal.returns-then-not-waits-clause-passes
returns-then-not-waits-clause-passes g c = passes_none refl refl
