-- Results that are stored in a list of named paths.
--     Put      a path with its results, and its position.
--     puts_of es      the results that are put
--     all_put is ps      the list with these at their positions
use Rattle.std.specs.Prelude.{ℕ, zero, suc, List, [], ◌∷◌, map, Option}
use Rattle.olr_spec.specs.Extension.{Path}
use Rattle.olr_paths.specs.Items.{Results, Item, results_of_named}
use Rattle.olr_paths.specs.declared.path_list.NamedPath.{NamedPath}

pub record Put : Type 0 where
  pub position : ℕ
  pub path : Path
  pub results : Option Results

-- the item at that position has this path and these results, and keeps its name
abbrev pub put : List Item → ℕ → Path → Option Results → List Item
put [] k path results = []
put (i ∷ is) zero path results = record { name = i.name; path = path; results = results } ∷ is
put (i ∷ is) (suc k) path results = i ∷ put is k path results

-- with each at its position
abbrev pub all_put : List Item → List Put → List Item
all_put is [] = is
all_put is (p ∷ ps) = put (all_put is ps) p.position p.path p.results

abbrev pub puts_of : List (ℕ × NamedPath) → List Put
puts_of es = map (λ e. record { position = e.0; path = e.1.path.value; results = results_of_named e.1 }) es
