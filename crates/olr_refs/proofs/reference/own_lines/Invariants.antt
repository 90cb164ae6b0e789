use Rattle.olr_refs.proofs.Common.{◌≡◌, map, take, slice_index}
use Rattle.olr_refs.proofs.reference.own_lines.Given as goal

abbrev pub invariant-loop-k : goal.invariant-loop-k
invariant-loop-k g l = l.own.items ≡ map (slice_index l.resolved.lines.now) (take l.k l.kept)
