-- The lines of a path as a map has them.
--     records_of M slot ls      the lines ls as the map has them, in order
--     ids rs      the numbers of the lines
--     AreRecords M slot rs      each line is as the map has it
use Rattle.std.specs.Prelude.{◌≡◌, ℕ, List, map}
use Rattle.olr_spec.specs.Map.{Map}
use Rattle.olr_search.specs.ResolvedLines.{ResolvedLine, record_of}

abbrev pub records_of : Map → (ℕ → ℕ) → List ℕ → List ResolvedLine
records_of M slot ls = map (record_of M slot) ls

abbrev pub ids : List ResolvedLine → List ℕ
ids rs = map (λ r. r.id) rs

abbrev pub AreRecords : Map → (ℕ → ℕ) → List ResolvedLine → Type 0
AreRecords M slot rs = rs ≡ records_of M slot (ids rs)
