use Rattle.olr_paths.proofs.Common.{[], map, refl, append-nil, entry_of}
use Rattle.olr_paths.proofs.path_list.PathList.entries.Goals as goal

pub returns-clause-reported : goal.returns-clause-reported
returns-clause-reported c =
    rw (← append-nil (map entry_of c.loop-name.entries.items)) (c.loop-name.invariant.0 [] (rw c.in-None.ensures.steps.0 refl))
