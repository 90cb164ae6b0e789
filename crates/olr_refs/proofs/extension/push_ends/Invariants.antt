use Rattle.olr_refs.proofs.Common.{◌≡◌, ℕ, List, take, Map, records_of}
use Rattle.olr_refs.proofs.Ends.{HasEnds}
use Rattle.olr_refs.proofs.extension.push_ends.Given as goal

-- the nodes have the ends of the lines so far
abbrev pub invariant-loop-record : goal.invariant-loop-record
invariant-loop-record l =
    (M : Map) (slot : ℕ → ℕ) (ls : List ℕ) → l.records ≡ records_of M slot ls →
    HasEnds M l.initial.nodes.items (take l.record-index ls) l.nodes.items
