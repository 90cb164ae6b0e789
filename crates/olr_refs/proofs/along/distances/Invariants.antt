use Rattle.olr_refs.proofs.Common.{◌≡◌, ◌≤◌, ◌*◌, ℕ, List, take, Map, dm_of, DistancesTo, records_of}
use Rattle.olr_refs.proofs.along.distances.Given as goal

-- the distances so far, the last of which is `along`
abbrev pub invariant-loop-record : goal.invariant-loop-record
invariant-loop-record l =
    record {
      are : (M : Map) (slot : ℕ → ℕ) (ls : List ℕ) → l.records ≡ records_of M slot ls →
          DistancesTo M ls l.record-index l.distances.items × (l.along ≡ dm_of M (take l.record-index ls));
      small : l.along ≤ 4294967296 * l.record-index;
    }
