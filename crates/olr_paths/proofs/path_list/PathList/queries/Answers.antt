use Rattle.olr_paths.proofs.Common.{inr}
use Rattle.olr_paths.proofs.path_list.PathList.queries.Goals as goal

pub loop-named-init : goal.loop-named-init
loop-named-init c = λ v h. inr (rw c.into_iter-named-iterator.ensures.into_iter_gives.0 h)
