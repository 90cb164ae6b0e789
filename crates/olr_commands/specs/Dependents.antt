-- Which paths depend on nodes: a change of the map around these may change their answers.
--     DependsOn g M nodes P      the footprint of the path on M holds one of the nodes, or the path names a line of M that
--         begins or ends at one
--     Dependents c nodes names      the names of the paths that depend on one of the nodes, in order
use Rattle.std.specs.Prelude.{◌≡◌, ℕ, ◌||◌, List, map, IsTrue}
use Rattle.olr_spec.specs.Map.{Map, has, has_line, start, end}
use Rattle.olr_spec.specs.Extension.{Path}
use Rattle.olr_spec.specs.Margins.{Margin}
use Rattle.olr_spec.specs.Footprint.{FootWith}
use Rattle.olr_commands.specs.State.{Named, Content}
use Rattle.olr_commands.specs.Counts.{Picks}

pub data DependsOn (g : Margin) (M : Map) (nodes : List ℕ) (P : Path) : Type 0 where
  On_node : (v : ℕ) → IsTrue (has nodes v) → FootWith g M P v → DependsOn g M nodes P
  On_line : (x : ℕ) → IsTrue (has_line M x) → IsTrue (has nodes (start M x) || has nodes (end M x)) →
      IsTrue (has P.lines x) → DependsOn g M nodes P

abbrev pub Dependents : Content → List ℕ → List (List ℕ) → Type 0
Dependents c nodes names =
    (ps : List Named) × Picks (λ p. DependsOn c.margin c.map nodes p.path) c.paths ps × (names ≡ map (λ p. p.name) ps)
