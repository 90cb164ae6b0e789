use Rattle.olr_records.proofs.Common.{fields_of, numbers, Out_of_range, ◌⊛◌, ◌≡◌, ℕ, List, drop, Err, Command}
use Rattle.olr_records.proofs.questions.too_many.Given as goal

-- the fields not read yet decide
abbrev pub invariant-loop-k : goal.invariant-loop-k
invariant-loop-k l =
    ◌⊛◌ {A = List ℕ} {B = Command} (Err Out_of_range) (numbers (drop 1 (fields_of l.fields)))
    ≡ Err Out_of_range ⊛ numbers (drop l.k (fields_of l.fields))
