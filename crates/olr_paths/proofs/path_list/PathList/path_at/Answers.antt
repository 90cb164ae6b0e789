use Rattle.olr_paths.proofs.Common.{arith, slice_get-map}
use Rattle.olr_paths.proofs.path_list.PathList.path_at.Goals as goal

pub returns : goal.returns
returns c = grind (arith, slice_get-map)
