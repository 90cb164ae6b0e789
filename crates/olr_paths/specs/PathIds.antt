-- A relation between numbers and path ids.
--     path_ids_of i n      the path ids of a number, in ascending order
--     holds i n m      whether the number has the path id
use Rattle.std.specs.Prelude.{ℕ, Bool, List}
use Rattle.olr_spec.specs.Map.{has}
use Rattle.olr_paths.specs.Listed.{path_ids_in}
use Rattle.olr_paths.specs.declared.index.Index.{Index}

abbrev pub path_ids_of : Index → ℕ → List ℕ
path_ids_of i n = path_ids_in i.path_ids n

abbrev pub holds : Index → ℕ → ℕ → Bool
holds i n m = has (path_ids_of i n) m
