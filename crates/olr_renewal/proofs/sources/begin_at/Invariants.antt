use Rattle.olr_renewal.proofs.Common.{◌≡◌, take, map}
use Rattle.olr_renewal.proofs.sources.begin_at.Given as goal

abbrev pub invariant-loop-item : goal.invariant-loop-item
invariant-loop-item g l = l.sources.items ≡ map (g.T.Source.source_of l.direction) (take l.item-index l.items)
