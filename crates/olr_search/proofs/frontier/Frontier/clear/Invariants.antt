use Rattle.olr_search.proofs.Common.{◌≡◌, vec_len, queue_len}
use Rattle.olr_search.proofs.frontier.Frontier.clear.Given as goal

abbrev pub invariant-loop-reached : goal.invariant-loop-reached
invariant-loop-reached l = queue_len l.self.queue ≡ 0

abbrev pub decreases-loop-reached : goal.decreases-loop-reached
decreases-loop-reached l = vec_len l.self.reached
