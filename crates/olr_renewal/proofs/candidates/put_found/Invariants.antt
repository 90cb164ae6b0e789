use Rattle.olr_renewal.proofs.Common.{take}
use Rattle.olr_renewal.proofs.Covering.{PutAll}
use Rattle.olr_renewal.proofs.candidates.put_found.Given as goal

-- the positions of the items so far are added
abbrev pub invariant-loop-item : goal.invariant-loop-item
invariant-loop-item g l =
    PutAll g.T.Numbered.number_of l.path_ids l.index (take l.item-index l.items) l.initial.found.items l.found.items
