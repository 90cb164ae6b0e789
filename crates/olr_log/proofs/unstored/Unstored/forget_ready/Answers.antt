use Rattle.olr_log.proofs.Parts.{forgotten_lines}
use Rattle.olr_log.proofs.unstored.Unstored.forget_ready.Goals as goal

pub invariant_of-self : goal.invariant_of-self
invariant_of-self c = record { right = rw c.remove_front.ensures (forgotten_lines c.args.self.now.right) }
