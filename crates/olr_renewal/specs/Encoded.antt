-- Paths that are encoded one at a time.
--     IsAdded g M is js name P r, IsSet is js name P r      the path under the name is the last of the list js;  it is the path
--         of its name there.  It has results that are right on M, r reports them, if its answer is another than before, counts
--         one encoding, and has its coverage queries
use Rattle.std.specs.Prelude.{◌≡◌, ℕ, List, [], ◌∷◌, ◌++◌, map, Some}
use Rattle.olr_spec.specs.Map.{Map}
use Rattle.olr_spec.specs.Margins.{Margin}
use Rattle.olr_spec.specs.Extension.{Path}
use Rattle.olr_commands.specs.Reply.{entry}
use Rattle.olr_paths.specs.Changes.{set_item}
use Rattle.olr_paths.specs.Items.{Results, Item, IsEncodingOf}
use Rattle.olr_paths.specs.Origins.{AreNewQueries}
use Rattle.olr_renewal.specs.Reencoded.{ReportsIfOther, entries_of}
use Rattle.olr_renewal.specs.declared.renewal.Renewed.{Renewed}

module _ (g : Margin) (M : Map) (is js : List Item) (name : List ℕ) (P : Path) (r : Renewed) where
  pub record IsAdded : Type 0 where
    pub results : Results
    pub right : IsEncodingOf g M P results
    pub list : js ≡ is ++ record { name = name; path = P; results = Some results } ∷ []
    pub entries : entries_of r ≡ entry name results.answer ∷ []
    pub counted : r.work.encodings ≡ 1
    pub queries : AreNewQueries r.queries.items is js

  pub record IsSet : Type 0 where
    pub results : Results
    pub right : IsEncodingOf g M P results
    pub list : js ≡ map (set_item name P (Some results)) is
    pub entries : ReportsIfOther is name results.answer [] (entries_of r)
    pub counted : r.work.encodings ≡ 1
    pub queries : AreNewQueries r.queries.items is js
