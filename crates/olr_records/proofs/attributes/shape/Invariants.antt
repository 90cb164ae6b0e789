use Rattle.olr_records.proofs.Common.{⊤, fields_of, ShapePoint, Read, shape, Gathers, ◌≡◌, List, drop, length, ◌≤◌, ◌-◌}
use Rattle.olr_records.proofs.LoopLemmas.{onto}
use Rattle.olr_records.proofs.attributes.shape.Given as goal

-- the points so far, with those of the fields not read yet, are the whole shape
abbrev pub invariant-loop-k : goal.invariant-loop-k
invariant-loop-k l = record {
  within : l.k ≤ length (fields_of l.fields);
  gathered : (x : Read (List ShapePoint)) × Gathers (λ _. ⊤) (λ v. v.items) x l.points
      × (onto x (shape (drop l.k (fields_of l.fields))) ≡ shape (drop l.fn.start (fields_of l.fields)));
}

abbrev pub decreases-loop-k : goal.decreases-loop-k
decreases-loop-k l = length (fields_of l.fields) - l.k
