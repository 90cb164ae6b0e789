-- The result of extending the ends of a path to valid nodes, and the nodes that are recorded.
--     ExtendedPath      an extended path, its lines as the map has them, and how many of them precede the path's own
--     Extends M P E lead F G      E is the extended path of P, lead lines precede the path's own, and the set G has the
--         nodes of F, those of E and those of both tried runs
use Rattle.std.specs.Prelude.{◌≡◌, ℕ, ◌⊎◌, ◌↔◌, List, Contains, length}
use Rattle.olr_spec.specs.Map.{Map}
use Rattle.olr_spec.specs.Extension.{Path, Tried, extended_path, taken_start}
use Rattle.olr_spec.specs.Queries.{NodeOf}
use Rattle.olr_search.specs.ResolvedLines.{ResolvedLine}

pub record ExtendedPath : Type 0 where
  pub path : Path
  pub records : List ResolvedLine
  pub lead : ℕ

pub record Extends (M : Map) (P E : Path) (lead : ℕ) (F G : List ℕ) : Type 0 where
  pub before : List ℕ
  pub after : List ℕ
  pub tried : Tried M P before after
  pub path : E ≡ extended_path M P before after
  pub leads : lead ≡ length (taken_start M before P.lines)
  pub noted : (v : ℕ) → Contains G v ↔ (Contains F v ⊎ (NodeOf M E.lines v ⊎ (NodeOf M before v ⊎ NodeOf M after v)))
