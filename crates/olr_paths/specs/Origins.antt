-- The coverage queries of a list.
--     BeginsIn results l, Begins is l      l is a query of results;  one of a list's
--     BeginsPut ps l      one of those that are put at places of a list
--     farthest g, AreShort g is      the greatest length of a query with the margin, in decimetres;  no query is longer
--     AreNewQueries ls is js      each query of the list js is one of the list is or one of ls
--     LackQueries is      no path has a query
use Rattle.std.specs.Prelude.{ℕ, ◌*◌, ◌≤◌, ◌==◌, List, [], ◌∷◌, Contains, Option, Some, None, ◌⊎◌, if◌then◌else◌}
use Rattle.olr_spec.specs.Extension.{limit}
use Rattle.olr_spec.specs.Margins.{Margin}
use Rattle.olr_spec.specs.Queries.{CoverageQuery}
use Rattle.olr_paths.specs.Items.{Results, Item}
use Rattle.olr_paths.specs.Stored.{Put}

abbrev pub BeginsIn : Option Results → CoverageQuery → Type 0
BeginsIn None l = ⊥
BeginsIn (Some m) l = Contains m.queries l

abbrev pub Begins : List Item → CoverageQuery → Type 0
Begins [] l = ⊥
Begins (i ∷ is) l = BeginsIn i.results l ⊎ Begins is l

abbrev pub BeginsPut : List Put → CoverageQuery → Type 0
BeginsPut [] l = ⊥
BeginsPut (p ∷ ps) l = BeginsIn p.results l ⊎ BeginsPut ps l

-- a line counts at most twice its length
abbrev pub farthest : Margin → ℕ
farthest g = if g.routes == 0 then limit else 2 * limit

abbrev pub AreShort : Margin → List Item → Type 0
AreShort g is = (l : CoverageQuery) → Begins is l → l.within ≤ farthest g

abbrev pub AreNewQueries : List CoverageQuery → List Item → List Item → Type 0
AreNewQueries ls is js = (l : CoverageQuery) → Begins js l → Begins is l ⊎ Contains ls l

abbrev pub LackQueries : List Item → Type 0
LackQueries is = (l : CoverageQuery) → ¬ Begins is l
