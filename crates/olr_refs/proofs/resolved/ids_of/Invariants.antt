use Rattle.olr_refs.proofs.Common.{◌≡◌, take, ids}
use Rattle.olr_refs.proofs.resolved.ids_of.Given as goal

abbrev pub invariant-loop-record : goal.invariant-loop-record
invariant-loop-record l = l.lines.items ≡ ids (take l.record-index l.records)
