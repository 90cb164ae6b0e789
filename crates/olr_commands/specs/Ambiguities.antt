-- The ambiguities of the strings of paths.
--     NamedObstacle, named name o      a path's name, the number of an LRP, and an ambiguity there
--     obstacles_of M A xs      the ambiguities of an answer, where xs are the path's own lines at its LRPs: nothing
--         if it has no reference
--     Ambiguity g M p es      es are the ambiguities of the named path's string on M, LRP by LRP
--     Ambiguities g M ps es      the same of all these paths, in order
--     AskedAmbiguities c name es      of the path of that name; of all paths if there is no name
use Rattle.std.specs.Prelude.{◌≡◌, ℕ, List, [], ◌∷◌, ◌++◌, map, Option, Some, None}
use Rattle.olr_spec.specs.Map.{Map}
use Rattle.olr_spec.specs.Margins.{Margin}
use Rattle.olr_spec.specs.Extension.{Path}
use Rattle.olr_spec.specs.Encoding.{Answer, Points, Refused, EncodesWith}
use Rattle.olr_spec.specs.Recovery.{OwnLinesOfWith}
use Rattle.olr_spec.specs.Ambiguity.{Obstacle, obstacles}
use Rattle.olr_commands.specs.State.{Named, Content, path_named}

pub record NamedObstacle : Type 0 where
  pub name : List ℕ
  pub lrp : ℕ
  pub obstacle : Obstacle

abbrev pub named : List ℕ → ℕ × Obstacle → NamedObstacle
named name o = record { name = name; lrp = o.0; obstacle = o.1 }

abbrev pub obstacles_of : Map → Answer → List ℕ → List (ℕ × Obstacle)
obstacles_of M (Points r) xs = obstacles M r xs
obstacles_of M (Refused refusal) xs = []

abbrev pub Ambiguity : Margin → Map → Named → List NamedObstacle → Type 0
Ambiguity g M p es =
    (A : Answer) × (xs : List ℕ) × EncodesWith g M p.path A × OwnLinesOfWith g M p.path A xs
    × (es ≡ map (named p.name) (obstacles_of M A xs))

abbrev pub Ambiguities : Margin → Map → List Named → List NamedObstacle → Type 0
Ambiguities g M [] es = es ≡ []
Ambiguities g M (p ∷ ps) es =
    (own : List NamedObstacle) × (rest : List NamedObstacle) × Ambiguity g M p own × Ambiguities g M ps rest
    × (es ≡ own ++ rest)

abbrev pub AskedAmbiguities : Content → Option (List ℕ) → List NamedObstacle → Type 0
AskedAmbiguities c None es = Ambiguities c.margin c.map c.paths es
AskedAmbiguities c (Some name) es =
    (P : Path) × (path_named c.paths name ≡ Some P) × Ambiguity c.margin c.map (record { name = name; path = P }) es
