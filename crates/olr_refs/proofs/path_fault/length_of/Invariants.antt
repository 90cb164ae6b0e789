use Rattle.olr_refs.proofs.Common.{◌≡◌, ◌≤◌, ◌*◌, ℕ, List, take, Map, dm_of, records_of}
use Rattle.olr_refs.proofs.path_fault.length_of.Given as goal

-- the length of the lines so far
abbrev pub invariant-loop-record : goal.invariant-loop-record
invariant-loop-record l =
    record {
      is : (M : Map) (slot : ℕ → ℕ) (ls : List ℕ) → l.records ≡ records_of M slot ls → l.len ≡ dm_of M (take l.record-index ls);
      small : l.len ≤ 4294967296 * l.record-index;
    }
